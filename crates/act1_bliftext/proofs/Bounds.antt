-- Words and lines have no more bytes than their text.
use Rattle.std.proofs.Common.{ℕ, ◌≡◌, ◌+◌, ◌<◌, ◌≤◌, ◌==◌, ◌&&◌, Bool, true, false, cond, if◌then◌else◌, List, [], ◌∷◌, ◌++◌, length, filter, sum_by, Option, Some, None, Result, Ok, Err, OnOk, refl, ap, arith}
use Rattle.std.specs.Option.{option_map}
use Rattle.std.specs.Borrow.{Bor}
use Rattle.std.specs.List.{slice_split, onto_first, list_all, position_or_len}
use Rattle.std.proofs.lemmas.List.{length-take}
use Rattle.std.proofs.lemmas.List.Sums.{sum_by-append, sum_by-cons}
use Rattle.act1_base.specs.Lines.{lines_of, in_front}
use Rattle.act1_bliftext.specs.Lines.{is_blank, has_byte, words_of, without_comment, before_backslash}
use Rattle.act1_bliftext.specs.PlaceSteps.{bytes_of}
use Rattle.act1_bliftext.specs.declared.fault.BlifFault.{BlifFault}

-- the bytes of all words
abbrev pub bytes_in : List (List ℕ) → ℕ
bytes_in words = sum_by length words

add_bytes : (word : List ℕ) (words : List (List ℕ)) → bytes_in (word ∷ words) ≡ length word + bytes_in words
add_bytes word words = sum_by-cons length word words

onto_bytes : (x : ℕ) (parts : List (List ℕ)) → bytes_in (onto_first x parts) ≤ bytes_in parts + 1
onto_bytes x [] = omega arith
onto_bytes x (part ∷ parts) = omega (arith, add_bytes (x ∷ part) parts, add_bytes part parts)

split_bytes : (blank : Bool) (x : ℕ) (parts : List (List ℕ)) → bytes_in (cond blank ([] ∷ parts) (onto_first x parts)) ≤ bytes_in parts + 1
split_bytes true x parts = omega (arith, add_bytes [] parts)
split_bytes false x parts = onto_bytes x parts

parts_fit : (bytes : List ℕ) → bytes_in (slice_split is_blank bytes) ≤ length bytes
parts_fit [] = omega arith
parts_fit (b ∷ bytes) =
    let step = split_bytes (is_blank b) b (slice_split is_blank bytes) in
    let rest = parts_fit bytes in
    omega (arith, step, rest)

kept_fit : (parts : List (List ℕ)) → bytes_in (filter has_byte parts) ≤ bytes_in parts
kept_fit [] = omega arith
kept_fit ([] ∷ parts) = let rest = kept_fit parts in omega (arith, rest, add_bytes [] parts)
kept_fit ((b ∷ part) ∷ parts) = let rest = kept_fit parts in omega (arith, rest, add_bytes (b ∷ part) parts, add_bytes (b ∷ part) (filter has_byte parts))

-- the words of a line have no more bytes than the line
pub words_fit : (bytes : List ℕ) → bytes_in (words_of bytes) ≤ length bytes
words_fit bytes =
    let kept = kept_fit (slice_split is_blank bytes) in
    let parts = parts_fit bytes in
    omega (arith, kept, parts)

-- a line without its comment has no more bytes
pub code_fits : (line : List ℕ) → length (without_comment line) ≤ length line
code_fits line =
    let n = position_or_len (λ b. b == 35) line in
    omega (arith, length-take n line)

front_step : (ends : Bool) (b : ℕ) (rest : Option (List ℕ)) (front : List ℕ) (n : ℕ) → ((f : List ℕ) → rest ≡ Some f → length f ≤ n) → cond ends (Some []) (option_map (λ (f : List ℕ). b ∷ f) rest) ≡ Some front → length front ≤ n + 1
front_step true b rest front n h is = let none : front ≡ [] = cc in rw none (omega arith)
front_step false b None front n h is = cc
front_step false b (Some f) front n h is =
    let low = h f refl in
    let whole : front ≡ b ∷ f = cc in
    rw whole (omega (arith, low))

-- what stands before a backslash has no more bytes
pub front_fits : (bytes front : List ℕ) → before_backslash bytes ≡ Some front → length front ≤ length bytes
front_fits [] front h = cc
front_fits (b ∷ bytes) front h =
    let low = front_step (b == 92 && list_all is_blank bytes) b (before_backslash bytes) front (length bytes) (λ f is. front_fits bytes f is) h in
    omega (arith, low)

-- the words so far and those of a line
pub more_bytes : (old new : List (List ℕ)) (code : List ℕ) (n : ℕ) → new ≡ old ++ words_of code → length code ≤ n → bytes_in new ≤ bytes_in old + n
more_bytes old new code n is few =
    let words = words_fit code in
    rw is (omega (arith, words, sum_by-append length old (words_of code)))

-- the bytes of lines, each with its end
abbrev pub weight : List (List ℕ) → ℕ
weight lines = sum_by (λ (line : List ℕ). length line + 1) lines

pub add_weight : (line : List ℕ) (lines : List (List ℕ)) → weight (line ∷ lines) ≡ length line + 1 + weight lines
add_weight line lines = sum_by-cons (λ (l : List ℕ). length l + 1) line lines

front_weight : (b : ℕ) (lines : List (List ℕ)) (n : ℕ) → weight lines ≤ n + 1 → weight (in_front b lines) ≤ n + 1 + 1
front_weight b [] n h = omega arith
front_weight b (line ∷ lines) n h = omega (arith, add_weight line lines, add_weight (b ∷ line) lines)

lines_step : (feed : Bool) (b : ℕ) (lines : List (List ℕ)) (n : ℕ) → weight lines ≤ n + 1 → weight (if feed then [] ∷ lines else in_front b lines) ≤ n + 1 + 1
lines_step true b lines n h = let step : weight ([] ∷ lines) ≡ 0 + 1 + weight lines = add_weight [] lines in omega (arith, step)
lines_step false b lines n h = front_weight b lines n h

-- the lines of a text have no more bytes than the text, but for the end of the last
pub lines_weight : (bytes : List ℕ) → weight (lines_of bytes) ≤ length bytes + 1
lines_weight [] = omega arith
lines_weight (b ∷ bytes) =
    let step = lines_step (b == 10) b (lines_of bytes) (length bytes) (lines_weight bytes) in
    omega (arith, step)

-- what is kept, with the words of a line
pub kept_more : (marks : ℕ) (old new : List (Bor (List ℕ))) (code : List ℕ) (n : ℕ) → bytes_of new ≡ bytes_of old ++ words_of code → length code ≤ n → marks + bytes_in (bytes_of new) ≤ marks + bytes_in (bytes_of old) + n
kept_more marks old new code n is few = let more = more_bytes (bytes_of old) (bytes_of new) code n is few in omega (arith, more)

pub le_below : (a b c : ℕ) → a ≤ b → b < c → a < c
le_below a b c h k = omega arith

pub kept_at_most : (result : Result (Unit {0}) BlifFault) (kept a b : ℕ) → OnOk result (kept ≤ a) → a ≤ b → OnOk result (kept ≤ b)
kept_at_most (Ok done) kept a b h k = let low : kept ≤ a = h in omega (arith, low)
kept_at_most (Err fault) kept a b h k = tt

-- what stands before the backslash of a line has no more bytes than the line
pub front_line_fits : (line code front : List ℕ) → code ≡ without_comment line → before_backslash code ≡ Some front → length front ≤ length line
front_line_fits line code front is h =
    let fits = front_fits code front h in
    let whole = code_fits line in
    omega (arith, fits, whole, ap length is)
