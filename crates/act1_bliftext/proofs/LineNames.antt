-- The names of lines without a fault keep the rules for names.
use Rattle.std.proofs.Common.{ℕ, ◌≡◌, ◌-◌, ◌≤◌, eqb, ltb, leb, cond, Bool, true, false, not, ◌&&◌, ◌||◌, List, [], ◌∷◌, ◌++◌, length, get_or, Option, Some, None, refl, sym, ap, ◌∙◌, arith}
use Rattle.std.specs.List.{list_all, list_any}
use Rattle.std.specs.Str.{bytes_eq}
use Rattle.std.proofs.lemmas.Bool.{and_parts, and_from, or_from, not-true, not_from_false}
use Rattle.std.proofs.lemmas.Bool.Decides.{nat_tests}
use Rattle.std.proofs.lemmas.List.Folds.{list_all-append, list_any-append}
use Rattle.std.proofs.lemmas.Slice.Eq.{bytes_eq-Decides}
use Rattle.act1_base.specs.Names.{is_name_byte, is_name, are_different}
use Rattle.act1_bliftext.specs.Lines.{Line}
use Rattle.act1_bliftext.specs.Forms.{form_of, names_by, control_names, latch_control, latch_names}
use Rattle.act1_bliftext.specs.Tables.{with_name, with_names}
use Rattle.act1_bliftext.specs.Faults.{is_fine_word, is_bad_word, is_byte_fault, is_long, are_past_limit, is_limit_fault, is_after_fault, fault_of, names_above, is_later, has_end}
use Rattle.act1_bliftext.specs.ReadingSteps.{IsNoRow, own_fault, place_fault}
use Rattle.act1_bliftext.specs.PlaceSteps.{Faultless}
use Rattle.act1_bliftext.specs.declared.form.Form.{Form}
use Rattle.act1_bliftext.specs.declared.form.Form.TheVariants as form
use Rattle.act1_bliftext.specs.declared.fault.BlifKind.{BlifKind}
use Rattle.act1_bliftext.specs.declared.fault.BlifKind.TheVariants as kind
use Rattle.act1_bliftext.proofs.FaultParts.{byte_first, of_no_row, parts}
use Rattle.act1_bliftext.proofs.TakesForm.{none_behind, not_so}

-- neither of two
pub or_parts : (a b : Bool) → (a || b) ≡ false → (a ≡ false) × (b ≡ false)
or_parts true b h = cc
or_parts false b h = (refl, h)

pub not_true : (b : Bool) → not b ≡ false → b ≡ true
not_true true h = refl
not_true false h = cc

short : (n : ℕ) → ltb 1024 n ≡ false → leb n 1024 ≡ true
short n h = grind (arith, nat_tests)

-- a fine word that isn't too long is a name
word_is_name : (word : List ℕ) → is_bad_word word ≡ false → is_long word ≡ false → is_name word ≡ true
word_is_name word fine low =
    let last = not (eqb (get_or word (length word - 1) 0) 92) in
    let whole : (leb 1 (length word) && list_all is_name_byte word && last) ≡ true = not_true (is_fine_word word) fine in
    let ends = and_parts (leb 1 (length word) && list_all is_name_byte word) last whole in
    let bytes = and_parts (leb 1 (length word)) (list_all is_name_byte word) ends.0 in
    and_from (leb 1 (length word) && leb (length word) 1024 && list_all is_name_byte word) last
    (and_from (leb 1 (length word) && leb (length word) 1024) (list_all is_name_byte word)
    (and_from (leb 1 (length word)) (leb (length word) 1024) bytes.0 (short (length word) low)) bytes.1) ends.1

-- words that are fine and not too long are names
pub words_are_names : (words : List (List ℕ)) → list_any is_bad_word words ≡ false → list_any is_long words ≡ false → list_all is_name words ≡ true
words_are_names [] h k = refl
words_are_names (word ∷ words) h k =
    let fine = or_parts (is_bad_word word) (list_any is_bad_word words) h in
    let low = or_parts (is_long word) (list_any is_long words) k in
    and_from (is_name word) (list_all is_name words) (word_is_name word fine.0 low.0) (words_are_names words fine.1 low.1)

control_step : (b : Bool) (control : List ℕ) → is_bad_word control ≡ false → list_any is_bad_word (cond b [] (control ∷ [])) ≡ false
control_step true control h = refl
control_step false control h = ap (λ (c : Bool). c || false) h

control_fine : (control : List ℕ) → is_bad_word control ≡ false → list_any is_bad_word (control_names control) ≡ false
unfolding control_names
control_fine control h = control_step _ control h

rest_fine : (words : List (List ℕ)) → list_any is_bad_word words ≡ false → list_any is_bad_word (latch_control words) ≡ false
rest_fine [] h = refl
rest_fine (a ∷ []) h = refl
rest_fine (a ∷ b ∷ words) h =
    let first = or_parts (is_bad_word a) (is_bad_word b || list_any is_bad_word words) h in
    let second = or_parts (is_bad_word b) (list_any is_bad_word words) first.1 in
    control_fine b second.0

latch_fine : (words : List (List ℕ)) → list_any is_bad_word words ≡ false → list_any is_bad_word (latch_names words) ≡ false
latch_fine [] h = refl
latch_fine (a ∷ []) h = refl
latch_fine (a ∷ b ∷ words) h =
    let first = or_parts (is_bad_word a) (is_bad_word b || list_any is_bad_word words) h in
    let second = or_parts (is_bad_word b) (list_any is_bad_word words) first.1 in
    or_from (is_bad_word a) (is_bad_word b || list_any is_bad_word (latch_control words)) first.0
    (or_from (is_bad_word b) (list_any is_bad_word (latch_control words)) second.0 (rest_fine words second.1))

-- the names of a line are among its words
names_fine : (f : Form) (rest : List (List ℕ)) → list_any is_bad_word rest ≡ false → list_any is_bad_word (names_by f rest) ≡ false
names_fine form.Model rest h = refl
names_fine form.Inputs rest h = h
names_fine form.Outputs rest h = h
names_fine form.Clock rest h = h
names_fine form.Names rest h = h
names_fine form.Latch rest h = latch_fine rest h
names_fine form.End rest h = refl
names_fine form.Unknown rest h = refl
names_fine form.Row rest h = refl

byte_cases : (above : List Line) (line : Line) (b : Bool) → is_byte_fault line.first line.rest ≡ b → fault_of above line ≡ None → is_byte_fault line.first line.rest ≡ false
byte_cases above line true is h = let first = byte_first above line is in cc
byte_cases above line false is h = is

behind_after : (b : Bool) (rest : Option BlifKind) → cond b (Some kind.After) rest ≡ None → rest ≡ None
behind_after true rest h = cc
behind_after false rest h = h

-- a line without a fault has no fault of its bytes
pub no_byte_fault : (above : List Line) (line : Line) → fault_of above line ≡ None → is_byte_fault line.first line.rest ≡ false
no_byte_fault above line h = byte_cases above line (is_byte_fault line.first line.rest) refl h

-- nor one of its limits
pub no_limit_fault : (above : List Line) (line : Line) (f : Form) → form_of line.first ≡ f → IsNoRow f → fault_of above line ≡ None → is_limit_fault f (names_above above) line.rest ≡ false
no_limit_fault above line f is free h =
    let whole : parts above f line ≡ None = sym (of_no_row above line f is free (no_byte_fault above line h)) ∙ h in
    let place = none_behind (own_fault f line.rest) (place_fault f (is_later above) (has_end above) (names_above above) line.rest) whole in
    let limit = is_limit_fault f (names_above above) line.rest in
    not_so limit kind.Limit None (behind_after (is_after_fault f (is_later above) (has_end above)) (cond limit (Some kind.Limit) None) place)

few_names : (n : ℕ) → ltb 65535 n ≡ false → n ≤ 65535
few_names n h = grind (arith, nat_tests)

-- names that fit, are different and are few
pub record AreNames (names : List (List ℕ)) : Type 0 where
  pub fit : list_all is_name names ≡ true
  pub differ : are_different names ≡ true
  pub few : length names ≤ 65535

other_way : (x y : List ℕ) (b : Bool) → bytes_eq x y ≡ b → bytes_eq y x ≡ false → bytes_eq x y ≡ false
other_way x y true is h =
    let same : x ≡ y = (bytes_eq-Decides x y).0 is in
    let back : bytes_eq y x ≡ true = (bytes_eq-Decides y x).1 (sym same) in
    cc
other_way x y false is h = is

differ_push : (names : List (List ℕ)) (name : List ℕ) → are_different names ≡ true → list_any (bytes_eq name) names ≡ false → are_different (names ++ name ∷ []) ≡ true
differ_push [] name h k = refl
differ_push (x ∷ names) name h k =
    let apart = and_parts (not (list_any (bytes_eq x) names)) (are_different names) h in
    let new = or_parts (bytes_eq name x) (list_any (bytes_eq name) names) k in
    let other : bytes_eq x name ≡ false = other_way x name (bytes_eq x name) refl new.0 in
    let none : list_any (bytes_eq x) (names ++ name ∷ []) ≡ false =
    list_any-append (bytes_eq x) names (name ∷ []) ∙ or_from (list_any (bytes_eq x) names) (bytes_eq x name || false) (not-true (list_any (bytes_eq x) names) apart.0) (or_from (bytes_eq x name) false other refl) in
    and_from (not (list_any (bytes_eq x) (names ++ name ∷ []))) (are_different (names ++ name ∷ [])) (not_from_false (list_any (bytes_eq x) (names ++ name ∷ [])) none) (differ_push names name apart.1 new.1)

differ_step : (names : List (List ℕ)) (name : List ℕ) (among : Bool) → list_any (bytes_eq name) names ≡ among → are_different names ≡ true → are_different (cond among names (names ++ name ∷ [])) ≡ true
differ_step names name true is h = h
differ_step names name false is h = differ_push names name h is

differ_more : (words names : List (List ℕ)) → are_different names ≡ true → are_different (with_names names words) ≡ true
differ_more [] names h = h
differ_more (w ∷ words) names h = differ_more words (with_name names w) (differ_step names w (list_any (bytes_eq w) names) refl h)

fit_step : (names : List (List ℕ)) (name : List ℕ) (among : Bool) → is_name name ≡ true → list_all is_name names ≡ true → list_all is_name (cond among names (names ++ name ∷ [])) ≡ true
fit_step names name true n h = h
fit_step names name false n h = list_all-append is_name names (name ∷ []) ∙ and_from (list_all is_name names) (is_name name && true) h (and_from (is_name name) true n refl)

fit_more : (words names : List (List ℕ)) → list_all is_name words ≡ true → list_all is_name names ≡ true → list_all is_name (with_names names words) ≡ true
fit_more [] names w h = h
fit_more (word ∷ words) names w h =
    let each = and_parts (is_name word) (list_all is_name words) w in
    fit_more words (with_name names word) each.1 (fit_step names word (list_any (bytes_eq word) names) each.0 h)

more_names : (names words : List (List ℕ)) → AreNames names → list_any is_bad_word words ≡ false → are_past_limit names words ≡ false → AreNames (with_names names words)
more_names names words h fine low =
    let limit = or_parts (list_any is_long words) (ltb 65535 (length (with_names names words))) low in
    record {
      fit = fit_more words names (words_are_names words fine limit.0) h.fit;
      differ = differ_more words names h.differ;
      few = few_names (length (with_names names words)) limit.1;
    }

by_form : (f : Form) (names rest : List (List ℕ)) → AreNames names → list_any is_bad_word rest ≡ false → (IsNoRow f → is_limit_fault f names rest ≡ false) → AreNames (with_names names (names_by f rest))
by_form form.Model names rest h fine low = h
by_form form.Inputs names rest h fine low = more_names names rest h fine (low tt)
by_form form.Outputs names rest h fine low = more_names names rest h fine (low tt)
by_form form.Clock names rest h fine low = more_names names rest h fine (low tt)
by_form form.Names names rest h fine low = more_names names rest h fine (or_parts (ltb 65 (length rest)) (are_past_limit names rest) (low tt)).1
by_form form.Latch names rest h fine low = more_names names (latch_names rest) h (latch_fine rest fine) (low tt)
by_form form.End names rest h fine low = h
by_form form.Unknown names rest h fine low = h
by_form form.Row names rest h fine low = h

-- the names of lines without a fault
pub names_fit : (above : List Line) → Faultless above → AreNames (names_above above)
names_fit [] h = record { fit = refl; differ = refl; few = omega arith }
names_fit (line ∷ above) h =
    let byte = or_parts (is_bad_word line.first) (list_any is_bad_word line.rest) (no_byte_fault above line h.0) in
    by_form (form_of line.first) (names_above above) line.rest (names_fit above h.1) byte.1 (λ free. no_limit_fault above line (form_of line.first) refl free h.0)
