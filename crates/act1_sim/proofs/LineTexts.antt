-- The lines of a text of vectors, and the characters of its outputs.
use Rattle.std.proofs.Common.{ℕ, suc, zero, ◌≡◌, ◌+◌, ◌<◌, ◌≤◌, ◌==◌, Bool, true, false, if◌then◌else◌, List, [], ◌∷◌, ◌++◌, length, map, take, drop, Some, None, append_assoc, refl, sym, ap, subst, ◌∙◌, arith}
use Rattle.std.specs.Prelude.{slice_get}
use Rattle.std.specs.List.{slice_split}
use Rattle.std.specs.Str.Lines.{lines, lines_of_parts, strip_carriage_return}
use Rattle.std.proofs.lemmas.Bool.Decides.{nat_tests}
use Rattle.std.proofs.lemmas.List.{take_all}
use Rattle.std.proofs.lemmas.List.Splits.{length-slice_split}
use Rattle.std.proofs.lemmas.List.Sums.{count_by-le-length}
use Rattle.act1_base.proofs.LineCuts.{first_feed}
use Rattle.act1_base.proofs.ListGets.{some_is}
use Rattle.act1_base.proofs.TextReads.{parts_of, some_part, split_feed, split_none}
use Rattle.act1_sim.specs.Vectors.{digit, output_line, is_vector, are_vectors, IsFirstNoVector}

pub map_twice : {X Y Z : Type 0} (f : X → Y) (g : Y → Z) (xs : List X) → map g (map f xs) ≡ map (λ x. g (f x)) xs
map_twice f g [] = refl
map_twice f g (x ∷ xs) = ap (λ zs. g (f x) ∷ zs) (map_twice f g xs)

-- the characters of all outputs and the line feed
pub printed : {O : Type 0} (outputs read : List O) (n : ℕ) (g : O → Bool) (start now new : List ℕ) → read ≡ outputs → length read ≤ n
    → now ≡ start ++ map (λ o. digit (g o)) (take n read) → new ≡ now ++ 10 ∷ [] → new ≡ start ++ output_line (map g outputs)
printed outputs read n g start now new is all so_far last =
    let taken = ap (λ xs. map (λ o. digit (g o)) xs) (take_all n read all ∙ is) ∙ sym (map_twice g digit outputs) in
    last ∙ ap (λ (t : List ℕ). t ++ 10 ∷ []) (so_far ∙ ap (λ (t : List ℕ). start ++ t) taken) ∙ append_assoc start (map digit (map g outputs)) (10 ∷ [])

few_parts : (parts : List (List ℕ)) → length (lines_of_parts parts) ≤ length parts
few_parts [] = omega arith
few_parts (line ∷ []) = at_end (length line == 0)
  where
    at_end : (b : Bool) → length (if b then [] else line ∷ []) ≤ 1
    at_end true = omega arith
    at_end false = omega arith
few_parts (line ∷ next ∷ parts) = let h = few_parts (next ∷ parts) in omega arith

-- there is at most one line more than bytes
pub few_lines : (bytes : List ℕ) → length (lines bytes) ≤ length bytes + 1
few_lines bytes =
    let parts = length-slice_split (λ b. b == 10) bytes in
    let cuts = count_by-le-length (λ b. b == 10) bytes in
    let h = few_parts (slice_split (λ b. b == 10) bytes) in
    omega arith

first_of_parts : (line : List ℕ) (parts : List (List ℕ)) → 0 < length parts → lines_of_parts (line ∷ parts) ≡ strip_carriage_return line ∷ lines_of_parts parts
first_of_parts line [] some = absurd (omega arith)
first_of_parts line (part ∷ parts) some = refl

-- the first line goes to a line feed that was found
pub at_feed : (n : ℕ) (bytes : List ℕ) → Some n ≡ first_feed bytes → lines bytes ≡ strip_carriage_return (take n bytes) ∷ lines (drop (n + 1) bytes)
at_feed n bytes h = ap lines_of_parts (split_feed n bytes h) ∙ first_of_parts (take n bytes) (parts_of (drop (n + 1) bytes)) (some_part (drop (n + 1) bytes))

some_bytes : (n : ℕ) → 0 < n → (n == 0) ≡ false
some_bytes n some = grind (arith, nat_tests)

-- with no line feed the bytes are one line
pub no_feed : (bytes : List ℕ) → 0 < length bytes → None ≡ first_feed bytes → lines bytes ≡ bytes ∷ []
no_feed [] some h = absurd (omega arith)
no_feed (b ∷ bytes) some h = rw (split_none (b ∷ bytes) h, some_bytes (length (b ∷ bytes)) some) refl

-- one line fewer is left
pub fewer : (before line : List ℕ) (rest : List ℕ) → lines before ≡ line ∷ lines rest → length (lines rest) < length (lines before)
fewer before line rest h = rw h (omega arith)

-- the line at this place is no vector, and each before it is one
pub record IsFirstIn (width : ℕ) (all : List (List ℕ)) (place : ℕ) (line : List ℕ) : Type 0 where
  pub there : slice_get all place ≡ Some line
  pub fails : is_vector width line ≡ false
  pub first : (k : ℕ) (other : List ℕ) → k < place → slice_get all k ≡ Some other → is_vector width other ≡ true

-- so many lines were vectors, and those to come decide
pub record Passed (width : ℕ) (all : List (List ℕ)) (place : ℕ) (rest : List (List ℕ)) : Type 0 where
  pub each : are_vectors width rest ≡ true → are_vectors width all ≡ true
  pub first : (k : ℕ) (line : List ℕ) → IsFirstIn width rest k line → IsFirstIn width all (place + k) line

-- the lines before that of this number, from 1, were vectors
abbrev pub AreBefore : ℕ → List (List ℕ) → ℕ → List (List ℕ) → Type 0
AreBefore width all number rest = (place : ℕ) × (number ≡ place + 1) × Passed width all place rest

none_passed : (width : ℕ) (all : List (List ℕ)) → Passed width all 0 all
none_passed width all =
    record {
      each = λ h. h;
      first = λ k line h. let e : k ≡ 0 + k = omega arith in subst (λ (n : ℕ). IsFirstIn width all n line) e h;
    }

first_later : (width : ℕ) (line : List ℕ) (rest : List (List ℕ)) (k : ℕ) (other : List ℕ) → is_vector width line ≡ true → IsFirstIn width rest k other → IsFirstIn width (line ∷ rest) (suc k) other
first_later width line rest k other is h =
    record {
      there = h.there;
      fails = h.fails;
      first = earlier;
    }
  where
    earlier : (j : ℕ) (u : List ℕ) → j < suc k → slice_get (line ∷ rest) j ≡ Some u → is_vector width u ≡ true
    earlier zero u low e = ap (is_vector width) (sym (some_is line u e)) ∙ is
    earlier (suc j) u low e = h.first j u (omega arith) e

-- a line that is a vector
passed_more : (width : ℕ) (all : List (List ℕ)) (place : ℕ) (line : List ℕ) (rest before : List (List ℕ)) → before ≡ line ∷ rest → Passed width all place before → is_vector width line ≡ true → Passed width all (place + 1) rest
passed_more width all place line rest before cut old is =
    let same : Passed width all place (line ∷ rest) = subst (λ (ls : List (List ℕ)). Passed width all place ls) cut old in
    record {
      each = λ h. same.each (rw (is, h) refl);
      first = λ k other h.
          let e : place + suc k ≡ place + 1 + k = omega arith in
          subst (λ (n : ℕ). IsFirstIn width all n other) e (same.first (suc k) other (first_later width line rest k other is h));
    }

-- a line that is none
stops_here : (width : ℕ) (bytes : List ℕ) (place number : ℕ) (line : List ℕ) (rest before : List (List ℕ)) → before ≡ line ∷ rest → Passed width (lines bytes) place before → is_vector width line ≡ false → number ≡ place + 1
    → IsFirstNoVector width bytes number
stops_here width bytes place number line rest before cut old fails numbered =
    let same : Passed width (lines bytes) place (line ∷ rest) = subst (λ (ls : List (List ℕ)). Passed width (lines bytes) place ls) cut old in
    let h = same.first 0 line (record { there = refl; fails = fails; first = λ k other low e. absurd (omega arith) }) in
    let e : place + 0 ≡ place = omega arith in
    let g : IsFirstIn width (lines bytes) place line = subst (λ (n : ℕ). IsFirstIn width (lines bytes) n line) e h in
    record { place = place; numbered = numbered; line = line; there = g.there; fails = g.fails; first = g.first }

pub none_before : (width : ℕ) (all : List (List ℕ)) → AreBefore width all 1 all
none_before width all = (0, omega arith, none_passed width all)

pub before_more : (width : ℕ) (all : List (List ℕ)) (number : ℕ) (line : List ℕ) (rest before : List (List ℕ)) → before ≡ line ∷ rest → AreBefore width all number before → is_vector width line ≡ true → AreBefore width all (number + 1) rest
before_more width all number line rest before cut (place, numbered, passed) is = (place + 1, omega (arith, numbered), passed_more width all place line rest before cut passed is)

pub refused_here : (width : ℕ) (bytes : List ℕ) (number : ℕ) (line : List ℕ) (rest before : List (List ℕ)) → before ≡ line ∷ rest → AreBefore width (lines bytes) number before → is_vector width line ≡ false → IsFirstNoVector width bytes number
refused_here width bytes number line rest before cut (place, numbered, passed) fails = stops_here width bytes place number line rest before cut passed fails numbered
