-- Texts that are read line by line.
use Rattle.std.proofs.Common.{ℕ, ◌≡◌, ◌+◌, ◌<◌, ◌==◌, false, List, [], ◌∷◌, ◌++◌, length, take, drop, Some, None, Result, Ok, Err, refl, sym, ap, subst, ◌∙◌, arith}
use Rattle.std.specs.List.{slice_split, All}
use Rattle.std.proofs.lemmas.List.{length-drop}
use Rattle.std.proofs.lemmas.List.Splits.{length-slice_split, slice_split_first, slice_split_none}
use Rattle.std.proofs.lemmas.List.Sums.{fails_before_first}
use Rattle.act1_base.specs.declared.texts.Stop.{Stop}
use Rattle.act1_base.specs.declared.texts.Stop.TheVariants as stop
use Rattle.act1_base.specs.declared.texts.TextFault.{TextFault}
use Rattle.act1_base.specs.Texts.{Gives, LineRules, numbered, at_end, and_then, read_parts}
use Rattle.act1_base.proofs.LineCuts.{end_of, first_feed, found, found_within, not_found}

-- the parts of the bytes that line feeds part
abbrev pub parts_of : List ℕ → List (List ℕ)
parts_of bytes = slice_split (λ b. b == 10) bytes

pub some_part : (bytes : List ℕ) → 0 < length (parts_of bytes)
some_part bytes = let parts = length-slice_split (λ b. b == 10) bytes in omega arith

-- the first part goes to a line feed that was found
pub split_feed : (n : ℕ) (bytes : List ℕ) → Some n ≡ first_feed bytes → parts_of bytes ≡ take n bytes ∷ parts_of (drop (n + 1) bytes)
split_feed n bytes h =
    rw (found (end_of bytes) n bytes _ h) (slice_split_first (λ b. b == 10) bytes 0 (found_within (end_of bytes) (length bytes) n _ refl h))

-- fewer bytes are behind the line feed, by it and what stands before it
pub behind_feed : (n : ℕ) (bytes : List ℕ) → Some n ≡ first_feed bytes → length (drop (n + 1) bytes) + n + 1 ≡ length bytes
behind_feed n bytes h =
    let same = found (end_of bytes) n bytes _ h in
    let within = found_within (end_of bytes) (length bytes) n _ refl h in
    let behind = length-drop (n + 1) bytes in
    omega arith

-- with no line feed the bytes are one part
pub split_none : (bytes : List ℕ) → None ≡ first_feed bytes → parts_of bytes ≡ bytes ∷ []
split_none bytes h =
    let past = not_found (end_of bytes) (length bytes) _ refl h in
    let none : All (λ b. (b == 10) ≡ false) bytes = λ k d within. fails_before_first (λ b. b == 10) bytes k d (omega arith) in
    slice_split_none (λ b. b == 10) bytes none

module _ {State Kind : Type 0} (rules : LineRules State Kind) where
  -- what the lines do one after the other, and then what stands behind them
  abbrev pub read_on : State → ℕ → List (List ℕ) → List ℕ → Result State (TextFault Kind)
  read_on s number [] rest = numbered number (at_end rules s rest)
  read_on s number (line ∷ lines) rest = and_then (numbered number (rules.after s line)) (λ next. read_on next (number + 1) lines rest)

  alike : (r : Result State (TextFault Kind)) (f g : State → Result State (TextFault Kind)) → ((t : State) → f t ≡ g t) → and_then r f ≡ and_then r g
  alike (Ok t) f g h = h t
  alike (Err fault) f g h = refl

  -- lines with the rest behind them, as parts of the text
  pub parts_read : (lines : List (List ℕ)) (s : State) (number : ℕ) (rest : List ℕ) → read_parts rules s number (lines ++ rest ∷ []) ≡ read_on s number lines rest
  parts_read [] s number rest = refl
  parts_read (line ∷ []) s number rest = refl
  parts_read (line ∷ next ∷ lines) s number rest =
      alike (numbered number (rules.after s line)) _ _ (λ t. parts_read (next ∷ lines) t (number + 1) rest)

  -- a line with some part behind it
  line_read : (s : State) (number : ℕ) (line : List ℕ) (parts : List (List ℕ)) → 0 < length parts
      → read_parts rules s number (line ∷ parts) ≡ and_then (numbered number (rules.after s line)) (λ next. read_parts rules next (number + 1) parts)
  line_read s number line [] some = absurd (omega arith)
  line_read s number line (part ∷ parts) some = refl

  -- the text up to a line feed that was found, and the text behind it
  feed_read : (bytes : List ℕ) (n number : ℕ) (s : State) → Some n ≡ first_feed bytes
      → read_parts rules s number (parts_of bytes) ≡ and_then (numbered number (rules.after s (take n bytes))) (λ next. read_parts rules next (number + 1) (parts_of (drop (n + 1) bytes)))
  feed_read bytes n number s h =
      ap (read_parts rules s number) (split_feed n bytes h) ∙ line_read s number (take n bytes) (parts_of (drop (n + 1) bytes)) (some_part (drop (n + 1) bytes))

  -- a line more
  pub read_more : (bytes : List ℕ) (n number : ℕ) (s next : State) → Some n ≡ first_feed bytes → numbered number (rules.after s (take n bytes)) ≡ Ok next
      → read_parts rules s number (parts_of bytes) ≡ read_parts rules next (number + 1) (parts_of (drop (n + 1) bytes))
  read_more bytes n number s next h step =
      feed_read bytes n number s h
      ∙ ap (λ (r : Result State (TextFault Kind)). and_then r (λ t. read_parts rules t (number + 1) (parts_of (drop (n + 1) bytes)))) step

  -- the first fault is the fault of the whole
  pub read_stops : (bytes : List ℕ) (n number : ℕ) (s : State) (stopped : Stop (TextFault Kind)) (whole : Result State (TextFault Kind)) → Some n ≡ first_feed bytes
      → Gives {X = State} (Err stopped) (numbered number (rules.after s (take n bytes)))
      → read_parts rules s number (parts_of bytes) ≡ whole → Gives {X = State} (Err stopped) whole
  read_stops bytes n number s (stop.Fault fault) whole h step is =
      sym is
      ∙ feed_read bytes n number s h
      ∙ ap (λ (r : Result State (TextFault Kind)). and_then r (λ t. read_parts rules t (number + 1) (parts_of (drop (n + 1) bytes)))) step
  read_stops bytes n number s stop.Memory whole h step is = tt

  -- behind the last line feed
  pub read_ends : (bytes : List ℕ) (number : ℕ) (s : State) (result : Result State (Stop (TextFault Kind))) (whole : Result State (TextFault Kind)) → None ≡ first_feed bytes
      → Gives result (numbered number (at_end rules s bytes))
      → read_parts rules s number (parts_of bytes) ≡ whole → Gives result whole
  read_ends bytes number s result whole h end is =
      subst (λ (r : Result State (TextFault Kind)). Gives result r) (sym (ap (read_parts rules s number) (split_none bytes h)) ∙ is) end
