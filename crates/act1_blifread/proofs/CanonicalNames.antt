-- Names in the order of their first use: which are among them, and how many there are.
use Rattle.std.proofs.Common.{ℕ, ◌≡◌, ◌≤◌, cond, Bool, true, false, not, ◌&&◌, ◌||◌, List, [], ◌∷◌, ◌++◌, length, refl, sym, ap, ◌∙◌}
use Rattle.std.specs.List.{list_all, list_any, AllByRecursion, IsDistinct}
use Rattle.std.specs.Str.{bytes_eq}
use Rattle.std.proofs.lemmas.Bool.{and_parts, and_from, or_from, not-true, not_from_false, true≢false}
use Rattle.std.proofs.lemmas.Cmp.{nat_list_eq_equiv}
use Rattle.std.proofs.lemmas.List.Folds.{list_any-append, list_all-append}
use Rattle.std.proofs.lemmas.Map.Made.{length-le_from_is_member}
use Rattle.std.proofs.lemmas.Slice.Eq.{bytes_eq-Decides}
use Rattle.act1_base.specs.Names.{are_different}
use Rattle.act1_bliftext.specs.Tables.{with_name, with_names}

-- the name is one of these
abbrev pub is_in : List (List ℕ) → List ℕ → Bool
is_in names name = list_any (bytes_eq name) names

pub same_name : (v w : List ℕ) → bytes_eq v w ≡ true → v ≡ w
same_name v w h = (bytes_eq-Decides v w).0 h

pub name_same : (w : List ℕ) → bytes_eq w w ≡ true
name_same w = (bytes_eq-Decides w w).1 refl

pub or_left : (a b : Bool) → a ≡ true → (a || b) ≡ true
or_left true b h = refl
or_left false b h = cc

pub or_right : (a b : Bool) → b ≡ true → (a || b) ≡ true
or_right true b h = refl
or_right false b h = h

neither : (a b : Bool) → (a || b) ≡ false → (a ≡ false) × (b ≡ false)
neither true b h = cc
neither false b h = (refl, h)

in_push : (names : List (List ℕ)) (v w : List ℕ) (among : Bool) → is_in names w ≡ true → is_in (cond among names (names ++ v ∷ [])) w ≡ true
in_push names v w true h = h
in_push names v w false h = list_any-append (bytes_eq w) names (v ∷ []) ∙ or_left (is_in names w) (is_in (v ∷ []) w) h

in_last : (names : List (List ℕ)) (w : List ℕ) (among : Bool) → is_in names w ≡ among → is_in (cond among names (names ++ w ∷ [])) w ≡ true
in_last names w true h = h
in_last names w false h = list_any-append (bytes_eq w) names (w ∷ []) ∙ or_right (is_in names w) (is_in (w ∷ []) w) (or_left (bytes_eq w w) false (name_same w))

-- a name stays among them
pub in_kept : (words names : List (List ℕ)) (w : List ℕ) → is_in names w ≡ true → is_in (with_names names words) w ≡ true
in_kept [] names w h = h
in_kept (v ∷ words) names w h = in_kept words (with_name names v) w (in_push names v w (list_any (bytes_eq v) names) h)

-- and those that are added come among them
pub in_added : (words names : List (List ℕ)) → list_all (is_in (with_names names words)) words ≡ true
in_added [] names = refl
in_added (v ∷ words) names =
    and_from (is_in (with_names (with_name names v) words) v) (list_all (is_in (with_names (with_name names v) words)) words)
    (in_kept words (with_name names v) v (in_last names v (list_any (bytes_eq v) names) refl)) (in_added words (with_name names v))

-- a test that names pass is passed by each that is among them
pub passes_in : (test : List ℕ → Bool) (names : List (List ℕ)) (w : List ℕ) → list_all test names ≡ true → is_in names w ≡ true → test w ≡ true
passes_in test [] w h k = absurd (true≢false (sym k))
passes_in test (x ∷ names) w h k =
    let parts = and_parts (test x) (list_all test names) h in
    by (bytes_eq w x) refl parts.0 (λ e. passes_in test names w parts.1 e)
  where
    by : (b : Bool) → bytes_eq w x ≡ b → test x ≡ true → (is_in names w ≡ true → test w ≡ true) → test w ≡ true
    by true e first rest = ap test (same_name w x e) ∙ first
    by false e first rest = rest (sym (ap (λ (b : Bool). b || is_in names w) e) ∙ k)

-- where names are among others, each that is among the former is among the others
pub all_passes : (test : List ℕ → Bool) (names words : List (List ℕ)) → list_all test names ≡ true → list_all (is_in names) words ≡ true → list_all test words ≡ true
all_passes test names [] h k = refl
all_passes test names (w ∷ words) h k =
    let parts = and_parts (is_in names w) (list_all (is_in names) words) k in
    and_from (test w) (list_all test words) (passes_in test names w h parts.0) (all_passes test names words h parts.1)

-- a test that they pass all, with those that are added
test_push : (test : List ℕ → Bool) (names : List (List ℕ)) (v : List ℕ) (among : Bool) → list_all test names ≡ true → test v ≡ true → list_all test (cond among names (names ++ v ∷ [])) ≡ true
test_push test names v true h k = h
test_push test names v false h k = list_all-append test names (v ∷ []) ∙ and_from (list_all test names) (test v && true) h (and_from (test v) true k refl)

pub tests_more : (test : List ℕ → Bool) (words names : List (List ℕ)) → list_all test names ≡ true → list_all test words ≡ true → list_all test (with_names names words) ≡ true
tests_more test [] names h k = h
tests_more test (v ∷ words) names h k =
    let parts = and_parts (test v) (list_all test words) k in
    tests_more test words (with_name names v) (test_push test names v (list_any (bytes_eq v) names) h parts.0) parts.1

-- they differ, with those that are added
other_way : (x y : List ℕ) (b : Bool) → bytes_eq x y ≡ b → bytes_eq y x ≡ false → bytes_eq x y ≡ false
other_way x y true is h = absurd (true≢false (sym (ap (bytes_eq y) (same_name x y is) ∙ name_same y) ∙ h))
other_way x y false is h = is

differ_push : (names : List (List ℕ)) (name : List ℕ) → are_different names ≡ true → is_in names name ≡ false → are_different (names ++ name ∷ []) ≡ true
differ_push [] name h k = refl
differ_push (x ∷ names) name h k =
    let apart = and_parts (not (list_any (bytes_eq x) names)) (are_different names) h in
    let new = neither (bytes_eq name x) (is_in names name) k in
    let other : bytes_eq x name ≡ false = other_way x name (bytes_eq x name) refl new.0 in
    let none : list_any (bytes_eq x) (names ++ name ∷ []) ≡ false =
    list_any-append (bytes_eq x) names (name ∷ []) ∙ or_from (list_any (bytes_eq x) names) (bytes_eq x name || false) (not-true (list_any (bytes_eq x) names) apart.0) (or_from (bytes_eq x name) false other refl) in
    and_from (not (list_any (bytes_eq x) (names ++ name ∷ []))) (are_different (names ++ name ∷ [])) (not_from_false (list_any (bytes_eq x) (names ++ name ∷ [])) none) (differ_push names name apart.1 new.1)

differ_step : (names : List (List ℕ)) (name : List ℕ) (among : Bool) → is_in names name ≡ among → are_different names ≡ true → are_different (cond among names (names ++ name ∷ [])) ≡ true
differ_step names name true is h = h
differ_step names name false is h = differ_push names name h is

pub differ_more : (words names : List (List ℕ)) → are_different names ≡ true → are_different (with_names names words) ≡ true
differ_more [] names h = h
differ_more (w ∷ words) names h = differ_more words (with_name names w) (differ_step names w (list_any (bytes_eq w) names) refl h)

none_equal : (w : List ℕ) (names : List (List ℕ)) → is_in names w ≡ false → AllByRecursion (λ v. bytes_eq w v ≡ false) names
none_equal w [] h = tt
none_equal w (v ∷ names) h = let parts = neither (bytes_eq w v) (is_in names w) h in (parts.0, none_equal w names parts.1)

distinct : (names : List (List ℕ)) → are_different names ≡ true → IsDistinct bytes_eq names
unfolding IsDistinct
distinct [] h = tt
distinct (w ∷ names) h =
    let parts = and_parts (not (list_any (bytes_eq w) names)) (are_different names) h in
    (none_equal w names (not-true (list_any (bytes_eq w) names) parts.0), distinct names parts.1)

-- names that differ are no more than those that they are among
pub no_more : (names all : List (List ℕ)) → are_different names ≡ true → list_all (is_in all) names ≡ true → length names ≤ length all
no_more names all differ among = length-le_from_is_member nat_list_eq_equiv names all (distinct names differ) (λ w h. passes_in (is_in all) names w among h)
