-- A text read line by line.
use Rattle.std.proofs.Common.{ℕ, ◌≡◌, ◌+◌, ◌<◌, Bool, true, false, cond, inl, inr, List, [], ◌∷◌, ◌++◌, length, filter, reverse, Option, Some, None, Result, Ok, Err, refl, ap, sym, subst, ◌∙◌, arith, append_assoc}
use Rattle.std.specs.Borrow.{Bor}
use Rattle.std.specs.List.{flat_map, slice_split, onto_first}
use Rattle.std.proofs.lemmas.List.{append-nil}
use Rattle.std.proofs.lemmas.List.Elements.{filter-append}
use Rattle.std.proofs.lemmas.List.Splits.{length-slice_split}
use Rattle.act1_base.specs.Lines.{lines_of}
use Rattle.act1_bliftext.specs.Lines.{Line, Joined, line_of, text_lines, is_blank, has_byte, words_of, without_comment, before_backslash, joined_from, joined_before, onto_next, over}
use Rattle.act1_bliftext.specs.Faults.{first_fault}
use Rattle.act1_bliftext.specs.ReadingSteps.{IsRead}
use Rattle.act1_bliftext.specs.Statements.{Say, StatementsOf}
use Rattle.act1_bliftext.specs.declared.statements.Statements.{Statements}
use Rattle.act1_bliftext.specs.PlaceSteps.{IsFault, TakesLines, IsBefore, IsPlace, IsEnd, AllGives, IsWhole, ahead, joined_words, bytes_of}
use Rattle.act1_bliftext.specs.declared.fault.BlifFault.{BlifFault}
use Rattle.act1_bliftext.specs.declared.place.Place.{Place}
use Rattle.act1_bliftext.specs.declared.reading.Reading.{Reading}
use Rattle.act1_bliftext.proofs.WholeLines.{fault_first, fault_later, over_more, over_reverse, still_faultless}

-- the line that a joined line makes
abbrev pub its_line : Joined → List Line
its_line joined = line_of joined.number (words_of joined.bytes)

-- joined lines, where these words stand before the first, whose number is this one
abbrev pended : ℕ → List (List ℕ) → List Joined → List Line
pended first words [] = line_of first words
pended first words (joined ∷ more) = line_of first (words ++ words_of joined.bytes) ++ flat_map its_line more

onto_append : (x : ℕ) (parts more : List (List ℕ)) → 0 < length parts → onto_first x (parts ++ more) ≡ onto_first x parts ++ more
onto_append x [] more h = absurd (omega arith)
onto_append x (part ∷ parts) more h = refl

split_step : (blank : Bool) (x : ℕ) (parts more : List (List ℕ)) → 0 < length parts → cond blank ([] ∷ (parts ++ more)) (onto_first x (parts ++ more)) ≡ cond blank ([] ∷ parts) (onto_first x parts) ++ more
split_step true x parts more h = refl
split_step false x parts more h = onto_append x parts more h

split_two : (xs ys : List ℕ) → slice_split is_blank (xs ++ 32 ∷ ys) ≡ slice_split is_blank xs ++ slice_split is_blank ys
split_two [] ys = refl
split_two (x ∷ xs) ys =
    let parts = slice_split is_blank xs in
    let more = slice_split is_blank ys in
    let some : 0 < length parts = omega (arith, length-slice_split is_blank xs) in
    ap (λ (all : List (List ℕ)). cond (is_blank x) ([] ∷ all) (onto_first x all)) (split_two xs ys) ∙ split_step (is_blank x) x parts more some

-- words on both sides of a blank
words_two : (xs ys : List ℕ) → words_of (xs ++ 32 ∷ ys) ≡ words_of xs ++ words_of ys
words_two xs ys = ap (filter has_byte) (split_two xs ys) ∙ filter-append has_byte (slice_split is_blank xs) (slice_split is_blank ys)

-- a front before the joined lines behind it
pended_front : (number first : ℕ) (words : List (List ℕ)) (front : List ℕ) (joined : List Joined) → pended first (words ++ words_of front) joined ≡ pended first words (onto_next number front joined)
pended_front number first words front [] = sym (append-nil (line_of first (words ++ words_of front)))
pended_front number first words front (j ∷ joined) =
    ap (λ (ws : List (List ℕ)). line_of first ws ++ flat_map its_line joined) (append_assoc words (words_of front) (words_of j.bytes) ∙ ap (λ (ws : List (List ℕ)). words ++ ws) (sym (words_two front j.bytes)))

ahead_step : (o : Option (List ℕ)) (number first next : ℕ) (words : List (List ℕ)) (code : List ℕ) (joined : List Joined) (lines : ℕ → List (List ℕ) → List Line)
    → ((n : ℕ) (ws : List (List ℕ)) → lines n ws ≡ pended n ws joined) → pended next [] joined ≡ flat_map its_line joined
    → joined_words o first next words (words_of code) lines ≡ pended first words (joined_before number code o joined)
ahead_step None number first next words code joined lines all own = ap (λ (ls : List Line). line_of first (words ++ words_of code) ++ ls) (all next [] ∙ own)
ahead_step (Some front) number first next words code joined lines all own = all first (words ++ words_of front) ∙ pended_front number first words front joined

own_step : (o : Option (List ℕ)) (number : ℕ) (code : List ℕ) (joined : List Joined) → pended number [] (joined_before number code o joined) ≡ flat_map its_line (joined_before number code o joined)
own_step None number code joined = refl
own_step (Some front) number code [] = refl
own_step (Some front) number code (j ∷ joined) = refl

-- the first joined line has the number of its first line
pended_own : (number : ℕ) (raws : List (List ℕ)) → pended number [] (joined_from number raws) ≡ flat_map its_line (joined_from number raws)
pended_own number [] = refl
pended_own number (raw ∷ raws) = own_step (before_backslash (without_comment raw)) number (without_comment raw) (joined_from (number + 1) raws)

ahead_is : (raws : List (List ℕ)) (number first : ℕ) (words : List (List ℕ)) → ahead raws number first words ≡ pended first words (joined_from number raws)
ahead_is [] number first words = refl
ahead_is (raw ∷ raws) number first words =
    ahead_step (before_backslash (without_comment raw)) number first (number + 1) words (without_comment raw) (joined_from (number + 1) raws) (ahead raws (number + 1)) (λ n ws. ahead_is raws (number + 1) n ws) (pended_own (number + 1) raws)

-- all lines with words are ahead at the start
pub ahead_all : (bytes : List ℕ) → ahead (lines_of bytes) 1 1 [] ≡ text_lines bytes
ahead_all bytes = ahead_is (lines_of bytes) 1 1 [] ∙ pended_own 1 (lines_of bytes)

-- the same lines are still to come for the same reading
moved : (all some others : List Line) (old new : Reading) → others ≡ some → new ≡ old → IsBefore all some old → IsBefore all others new
moved all some others old new is reading h = record {
  above = h.above;
  read = subst (λ (r : Reading). IsRead h.above r) (sym reading) h.read;
  faultless = h.faultless;
  faults = ap (first_fault h.above) is ∙ h.faults;
  lines = ap (λ (ls : List Line). over ls h.above) is ∙ h.lines;
}

-- the line is joined to the next
pub goes_on : (all : List Line) (raw : List ℕ) (raws : List (List ℕ)) (old new : Place) (front : List ℕ) → before_backslash (without_comment raw) ≡ Some front → new.reading ≡ old.reading → new.first ≡ old.first → new.number ≡ old.number + 1
    → bytes_of new.words.items ≡ bytes_of old.words.items ++ words_of front → IsPlace all (raw ∷ raws) old → IsPlace all raws new
goes_on all raw raws old new front joins reading first number words h =
    let is : ahead raws new.number new.first (bytes_of new.words.items) ≡ ahead (raw ∷ raws) old.number old.first (bytes_of old.words.items) =
    rw (number, first, words) (sym (ap (λ (o : Option (List ℕ)). joined_words o old.first (old.number + 1) (bytes_of old.words.items) (words_of (without_comment raw)) (ahead raws (old.number + 1))) joins)) in
    moved all _ _ old.reading new.reading is reading h

-- the joined line ends
pub comes_to_end : (all : List Line) (raw : List ℕ) (raws : List (List ℕ)) (old new : Place) → before_backslash (without_comment raw) ≡ None → new.reading ≡ old.reading → new.first ≡ old.first → new.number ≡ old.number + 1
    → bytes_of new.words.items ≡ bytes_of old.words.items ++ words_of (without_comment raw) → IsPlace all (raw ∷ raws) old → IsEnd all raws new
comes_to_end all raw raws old new ends reading first number words h =
    let is : line_of new.first (bytes_of new.words.items) ++ ahead raws new.number new.number [] ≡ ahead (raw ∷ raws) old.number old.first (bytes_of old.words.items) =
    rw (number, first, words) (sym (ap (λ (o : Option (List ℕ)). joined_words o old.first (old.number + 1) (bytes_of old.words.items) (words_of (without_comment raw)) (ahead raws (old.number + 1))) ends)) in
    moved all _ _ old.reading new.reading is reading h

-- behind the joined line
pub behind_line : (all : List Line) (raws : List (List ℕ)) (old new : Place) (reading : Reading) (words : List (Bor (List ℕ))) → words ≡ old.words.items → (h : IsEnd all raws old) → TakesLines h.above (line_of old.first (bytes_of words)) (Ok reading)
    → new.reading ≡ reading → new.first ≡ old.number → new.number ≡ old.number → new.words.items ≡ [] → IsPlace all raws new
behind_line all raws old new reading taken taken_is h taken_ok same first number words =
    let takes : TakesLines h.above (line_of old.first (bytes_of old.words.items)) (Ok reading) = subst (λ (ws : List (Bor (List ℕ))). TakesLines h.above (line_of old.first (bytes_of ws)) (Ok reading)) taken_is taken_ok in
    let lines = line_of old.first (bytes_of old.words.items) in
    let is : ahead raws new.number new.first (bytes_of new.words.items) ≡ ahead raws old.number old.number [] = rw (number, first, words) refl in
    record {
      above = over lines h.above;
      read = subst (λ (r : Reading). IsRead (over lines h.above) r) (sym same) takes.1;
      faultless = still_faultless h.above lines h.faultless takes.0;
      faults = ap (first_fault (over lines h.above)) is ∙ sym (fault_later h.above lines (ahead raws old.number old.number []) takes.0) ∙ h.faults;
      lines = ap (λ (ls : List Line). over ls (over lines h.above)) is ∙ sym (over_more lines (ahead raws old.number old.number []) h.above) ∙ h.lines;
    }

-- a fault of the joined line
pub line_stops : (all : List Line) (raws : List (List ℕ)) (old : Place) (fault : BlifFault) → (h : IsEnd all raws old) → TakesLines h.above (line_of old.first (bytes_of old.words.items)) (Err fault) → IsFault (first_fault [] all) fault
line_stops all raws old fault h (inl none) = inl none
line_stops all raws old fault h (inr is) = inr (sym h.faults ∙ fault_first h.above (line_of old.first (bytes_of old.words.items)) (ahead raws old.number old.number []) fault is)

-- before the first line
pub at_start : (bytes : List ℕ) (place : Place) → place.first ≡ 1 → place.number ≡ 1 → place.words.items ≡ [] → IsRead [] place.reading → IsPlace (text_lines bytes) (lines_of bytes) place
at_start bytes place first number words read =
    let is : ahead (lines_of bytes) place.number place.first (bytes_of place.words.items) ≡ text_lines bytes = rw (number, first, words) (ahead_all bytes) in
    record {
      above = [];
      read = read;
      faultless = tt;
      faults = ap (first_fault []) is;
      lines = ap (λ (ls : List Line). over ls []) is;
    }

-- behind the last line
pub at_end : (all : List Line) (raws : List (List ℕ)) (place : Place) (result : Result Reading BlifFault) → raws ≡ [] → (h : IsPlace all raws place) → TakesLines h.above (line_of place.first (bytes_of place.words.items)) result → AllGives all result
at_end all raws place (Ok new) none h takes =
    let is : ahead raws place.number place.first (bytes_of place.words.items) ≡ line_of place.first (bytes_of place.words.items) = rw none refl in (
      sym h.faults ∙ ap (first_fault h.above) is ∙ takes.0,
      subst (λ (ls : List Line). IsRead ls new) (sym (ap (λ (ls : List Line). over ls h.above) is) ∙ h.lines) takes.1,
    )
at_end all raws place (Err fault) none h (inl memory) = inl memory
at_end all raws place (Err fault) none h (inr stops) =
    let is : ahead raws place.number place.first (bytes_of place.words.items) ≡ line_of place.first (bytes_of place.words.items) = rw none refl in
    inr (sym h.faults ∙ ap (first_fault h.above) is ∙ stops)

-- a whole text without a fault
pub is_whole : (all : List Line) (reading : Reading) → AllGives all (Ok reading) → IsWhole reading
is_whole all reading h = record { above = over all []; read = h.1; faultless = still_faultless [] all tt h.0 }

-- its lines from the last to the first
pub from_last : (all : List Line) → over all [] ≡ reverse all
from_last all = over_reverse all [] ∙ append-nil (reverse all)

-- what the whole text says
pub text_says : (bytes : List ℕ) (reading : Reading) (s : Statements) → AllGives (text_lines bytes) (Ok reading) → ((above : List Line) → IsRead above reading → Say above s.model s.names s.statements) → StatementsOf bytes s
text_says bytes reading s h says = record {
  faultless = h.0;
  says = subst (λ (above : List Line). Say above s.model s.names s.statements) (from_last (text_lines bytes)) (says (over (text_lines bytes) []) h.1);
}
