-- Names and their numbers.
use Rattle.std.proofs.Common.{ℕ, zero, suc, ◌≡◌, ◌<◌, ◌≤◌, ◌+◌, Bool, true, false, ◌||◌, if◌then◌else◌, nat_lt, List, [], ◌∷◌, ◌++◌, length, get_or, take, drop, map, Option, Some, Result, Ok, Err, refl, sym, ap, subst, ◌∙◌, arith, length-append}
use Rattle.std.specs.Prelude.{slice_get}
use Rattle.std.specs.Str.{bytes_eq}
use Rattle.std.proofs.lemmas.List.{map-append}
use Rattle.std.specs.List.{list_any, position}
use Rattle.std.specs.Borrow.{Bor}
use Rattle.std.proofs.lemmas.Bool.Decides.{nat_tests}
use Rattle.std.proofs.lemmas.List.Quantifiers.{position-Some}
use Rattle.std.proofs.lemmas.Option.{slice_get-get_or}
use Rattle.std.proofs.lemmas.Slice.Eq.{bytes_eq-Decides}
use Rattle.act1_base.specs.declared.texts.Stop.{Stop}
use Rattle.act1_base.specs.declared.texts.Stop.TheVariants.{Fault, Memory}
use Rattle.act1_bliftext.specs.Faults.{is_long}
use Rattle.act1_bliftext.specs.NumberingSteps.{Numbers, NumbersAll, AddsNames}
use Rattle.act1_bliftext.proofs.WordLists.{texts, next_text, more_texts, no_text, all_texts}
use Rattle.act1_bliftext.specs.Tables.{with_name, with_names, AreNumbersOf}
use Rattle.act1_bliftext.specs.declared.fault.BlifKind.{BlifKind}

-- what stands at a place stays there when more comes behind
pub get_kept : (xs ys : List (List ℕ)) (n : ℕ) (w : List ℕ) → slice_get xs n ≡ Some w → slice_get (xs ++ ys) n ≡ Some w
get_kept [] ys n w h = cc
get_kept (x ∷ xs) ys zero w h = h
get_kept (x ∷ xs) ys (suc n) w h = get_kept xs ys n w h

one_kept : (names : List (List ℕ)) (name : List ℕ) (n : ℕ) (w : List ℕ) (among : Bool) → slice_get names n ≡ Some w → slice_get (if among then names else names ++ name ∷ []) n ≡ Some w
one_kept names name n w true h = h
one_kept names name n w false h = get_kept names (name ∷ []) n w h

-- a name keeps its number
pub number_kept : (names more : List (List ℕ)) (n : ℕ) (w : List ℕ) → slice_get names n ≡ Some w → slice_get (with_names names more) n ≡ Some w
number_kept names [] n w h = h
number_kept names (name ∷ more) n w h = number_kept (with_name names name) more n w (one_kept names name n w (list_any (bytes_eq name) names) h)

-- numbers stay those of their words
pub numbers_kept : (names more : List (List ℕ)) (numbers : List ℕ) (words : List (List ℕ)) → AreNumbersOf names numbers words → AreNumbersOf (with_names names more) numbers words
numbers_kept names more [] [] h = refl
numbers_kept names more [] (w ∷ words) h = cc
numbers_kept names more (n ∷ numbers) [] h = cc
numbers_kept names more (n ∷ numbers) (w ∷ words) h =
    let first : slice_get names n ≡ Some w = cc in
    let rest : map (slice_get names) numbers ≡ map Some words = cc in
    let first_kept = number_kept names more n w first in
    let rest_kept : map (slice_get (with_names names more)) numbers ≡ map Some words = numbers_kept names more numbers words rest in
    cc

one_longer : (names : List (List ℕ)) (name : List ℕ) (among : Bool) → length names ≤ length (if among then names else names ++ name ∷ [])
one_longer names name true = omega arith
one_longer names name false = omega (arith, length-append names (name ∷ []))

-- names don't become fewer
pub names_grow : (names more : List (List ℕ)) → length names ≤ length (with_names names more)
names_grow names [] = omega arith
names_grow names (name ∷ more) =
    let one = one_longer names name (list_any (bytes_eq name) names) in
    let rest = names_grow (with_name names name) more in
    omega (arith, one, rest)

-- a number more
pub numbers_more : (names : List (List ℕ)) (numbers : List ℕ) (words : List (List ℕ)) (n : ℕ) (w : List ℕ) → AreNumbersOf names numbers words → slice_get names n ≡ Some w
    → AreNumbersOf names (numbers ++ n ∷ []) (words ++ w ∷ [])
numbers_more names numbers words n w h k =
    map-append (slice_get names) numbers (n ∷ []) ∙ ap (λ (xs : List (Option (List ℕ))). xs ++ slice_get names n ∷ []) h
    ∙ ap (λ (o : Option (List ℕ)). map Some words ++ o ∷ []) k ∙ sym (map-append Some words (w ∷ []))

-- a name that was found
pub name_found : (names : List (List ℕ)) (name key : List ℕ) (n : ℕ) → key ≡ name → Some n ≡ position (bytes_eq key) names → true ≡ list_any (bytes_eq key) names
    → length names ≤ 65535 → (names ≡ with_name names name) × (slice_get names n ≡ Some name) × (length names ≤ 65535)
name_found names name key n is at among size =
    let place = position-Some (bytes_eq key) names n [] (sym at) in
    let same : key ≡ get_or names n [] = (bytes_eq-Decides key (get_or names n [])).0 place.1 in
    let low : n < length names = place.0 in
    let got : slice_get names n ≡ Some (get_or names n []) = slice_get-get_or names n [] low in
    let all : list_any (bytes_eq name) names ≡ true = ap (λ (k : List ℕ). list_any (bytes_eq k) names) (sym is) ∙ sym among in
    (rw all refl, got ∙ ap Some (sym same ∙ is), size)

-- a name that is new, where there is no room
pub no_room : (names : List (List ℕ)) (name key : List ℕ) → key ≡ name → false ≡ list_any (bytes_eq key) names → length names ≡ 65535 → 65535 < length (with_name names name)
no_room names name key is among full =
    let all : list_any (bytes_eq name) names ≡ false = ap (λ (k : List ℕ). list_any (bytes_eq k) names) (sym is) ∙ sym among in
    rw all (omega (arith, length-append names (name ∷ [])))

-- a turn of the numbering
pub names_turn : (old new : List (List ℕ)) (words : List (Bor (List ℕ))) (i : ℕ) (d : Bor (List ℕ)) (numbers : List ℕ) (n : ℕ) (whole : List (List ℕ)) → i < length words
    → new ≡ with_name old (get_or words i d).now → with_names old (drop i (texts words)) ≡ whole → with_names new (drop (i + 1) (texts words)) ≡ whole
names_turn old new words i d numbers n whole within is h =
    ap (λ (names : List (List ℕ)). with_names names (drop (i + 1) (texts words))) is ∙ sym (ap (with_names old) (next_text words i d within)) ∙ h

pub numbers_turn : (old new : List (List ℕ)) (words : List (Bor (List ℕ))) (i : ℕ) (d : Bor (List ℕ)) (numbers more : List ℕ) (n : ℕ) → i < length words
    → new ≡ with_name old (get_or words i d).now → slice_get new n ≡ Some (get_or words i d).now → more ≡ numbers ++ n ∷ []
    → AreNumbersOf old numbers (take i (texts words)) → AreNumbersOf new more (take (i + 1) (texts words))
numbers_turn old new words i d numbers more n within is at pushed h =
    let w : List ℕ = (get_or words i d).now in
    let kept : AreNumbersOf new numbers (take i (texts words)) = subst (λ (names : List (List ℕ)). AreNumbersOf names numbers (take i (texts words))) (sym is) (numbers_kept old (w ∷ []) numbers (take i (texts words)) h) in
    rw (pushed, more_texts words i d within) (numbers_more new numbers (take i (texts words)) n w kept at)

pub numbers_stop : (old : List (List ℕ)) (words : List (Bor (List ℕ))) (i : ℕ) (d : Bor (List ℕ)) (whole : List (List ℕ)) → i < length words
    → 65535 < length (with_name old (get_or words i d).now) → with_names old (drop i (texts words)) ≡ whole → 65535 < length whole
numbers_stop old words i d whole within past h =
    let grow = names_grow (with_name old (get_or words i d).now) (drop (i + 1) (texts words)) in
    let is : with_names (with_name old (get_or words i d).now) (drop (i + 1) (texts words)) ≡ whole = sym (ap (with_names old) (next_text words i d within)) ∙ h in
    omega (arith, ap length is)

pub numbers_err : (old known new : List (List ℕ)) (words : List (Bor (List ℕ))) (i : ℕ) (d : Bor (List ℕ)) (first : List (List ℕ)) (stop : Stop BlifKind) → i < length words
    → Numbers old (get_or words i d).now new (Err stop) → with_names old (drop i (texts words)) ≡ with_names first (texts words) → NumbersAll first (texts words) known (Err stop)
numbers_err old known new words i d first (Fault k) within h is = (h.0, numbers_stop old words i d (with_names first (texts words)) within h.1 is)
numbers_err old known new words i d first Memory within h is = tt

pub numbers_end : (old first : List (List ℕ)) (words : List (Bor (List ℕ))) (i : ℕ) (numbers : List ℕ) → length words ≤ i → with_names old (drop i (texts words)) ≡ with_names first (texts words)
    → AreNumbersOf old numbers (take i (texts words)) → (old ≡ with_names first (texts words)) × AreNumbersOf old numbers (texts words)
numbers_end old first words i numbers past is h =
    (sym (ap (with_names old) (no_text words i past)) ∙ is, subst (λ (ws : List (List ℕ)). AreNumbersOf old numbers ws) (all_texts words i past) h)

few : (long : Bool) (n : ℕ) → long ≡ false → n ≤ 65535 → (long || nat_lt 65535 n) ≡ false
few true n e h = cc
few false n e h = grind (arith, nat_tests)

many : (long : Bool) (n : ℕ) → 65535 < n → (long || nat_lt 65535 n) ≡ true
many true n h = refl
many false n h = grind (arith, nat_tests)

pub names_added : (old words new : List (List ℕ)) (long : Bool) (result : Result (List ℕ) (Stop BlifKind)) → long ≡ list_any is_long words → long ≡ false → NumbersAll old words new result → AddsNames old words new result
names_added old words new long (Ok numbers) is none h =
    let size : length (with_names old words) ≤ 65535 = subst (λ (names : List (List ℕ)). length names ≤ 65535) h.0 h.2 in
    (h.0, h.1, few (list_any is_long words) (length (with_names old words)) (sym is ∙ none) size)
names_added old words new long (Err (Fault k)) is none h = (h.0, many (list_any is_long words) (length (with_names old words)) h.1)
names_added old words new long (Err Memory) is none h = tt
