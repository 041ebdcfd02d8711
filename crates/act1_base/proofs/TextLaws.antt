-- What the texts are that a format reads to their end, and that a format reads its lines again. A format shows what one line does, and has its law of texts from here.
use Rattle.std.proofs.Common.{ℕ, ◌≡◌, ◌+◌, arith, eqb, length, List, [], ◌∷◌, ◌++◌, map, Result, Ok, Err, refl, sym, ap, subst, ◌∙◌, append_assoc}
use Rattle.std.specs.List.{slice_split, join_with_byte, AllByRecursion}
use Rattle.std.proofs.lemmas.List.{append-nil}
use Rattle.std.proofs.lemmas.List.Splits.{join_with_byte-slice_split, length-slice_split}
use Rattle.act1_base.specs.declared.texts.TextFault.{TextFault}
use Rattle.act1_base.specs.FirstFault.{Runs}
use Rattle.act1_base.specs.Texts.{LineRules, numbered, at_end, and_then, read_parts, reading}
use Rattle.act1_base.specs.Words.{words_of, text_of_lines}
use Rattle.act1_base.proofs.TextLines.{IsWithout, joined, lines_again, text_again}
use Rattle.act1_base.proofs.TextReads.{parts_read, read_on}

-- the words of each line, put together again
joined_words : (lines : List (List ℕ)) → map joined (map words_of lines) ≡ lines
joined_words [] = refl
joined_words (line ∷ lines) =
    ap (λ (l : List ℕ). l ∷ map joined (map words_of lines)) (join_with_byte-slice_split 32 line) ∙ ap (λ (ls : List (List ℕ)). line ∷ ls) (joined_words lines)

module _ {State Kind : Type 0} (rules : LineRules State Kind) where
  -- the parts of a text that is read to its end
  pub record Whole (s : State) (parts : List (List ℕ)) (t : State) : Type 0 where
    pub lines : List (List ℕ)
    pub last : State
    pub split : parts ≡ lines ++ [] ∷ []
    pub runs : Runs rules s lines last
    pub ends : rules.end last ≡ Ok t

  ended : (number : ℕ) (r : Result State Kind) (t : State) → numbered number r ≡ Ok t → r ≡ Ok t
  ended number (Ok s) t e = let same : s ≡ t = cc in ap (λ (u : State). Ok u) same
  ended number (Err k) t e = cc

  last_part : (rest : List ℕ) (s : State) (number : ℕ) (t : State) → numbered number (at_end rules s rest) ≡ Ok t → Whole s (rest ∷ []) t
  last_part [] s number t e = record { lines = []; last = s; split = refl; runs = refl; ends = ended number (rules.end s) t e }
  last_part (b ∷ bytes) s number t e = cc

  more : (line : List ℕ) (parts : List (List ℕ)) (s next t : State) → rules.after s line ≡ Ok next → Whole next parts t → Whole s (line ∷ parts) t
  more line parts s next t step w = record {
    lines = line ∷ w.lines;
    last = w.last;
    split = ap (λ (ps : List (List ℕ)). line ∷ ps) w.split;
    runs = (next, step, w.runs);
    ends = w.ends;
  }

  by_line : (line : List ℕ) (parts : List (List ℕ)) (s : State) (number : ℕ) (t : State) (after : State → Result State (TextFault Kind)) (r : Result State Kind) → rules.after s line ≡ r
      → ((u : State) → after u ≡ Ok t → Whole u parts t) → and_then (numbered number r) after ≡ Ok t → Whole s (line ∷ parts) t
  by_line line parts s number t after (Ok u) step rest e = more line parts s u t step (rest u e)
  by_line line parts s number t after (Err k) step rest e = cc

  whole_parts : (part : List ℕ) (parts : List (List ℕ)) (s : State) (number : ℕ) (t : State) → read_parts rules s number (part ∷ parts) ≡ Ok t → Whole s (part ∷ parts) t
  whole_parts part [] s number t e = last_part part s number t e
  whole_parts part (next ∷ parts) s number t e =
      by_line part (next ∷ parts) s number t (λ u. read_parts rules u (number + 1) (next ∷ parts)) (rules.after s part) refl
      (λ u h. whole_parts next parts u (number + 1) t h) e

  some_parts : (parts : List (List ℕ)) (k : ℕ) (s : State) (number : ℕ) (t : State) → length parts ≡ k + 1 → read_parts rules s number parts ≡ Ok t → Whole s parts t
  some_parts [] k s number t e h = absurd (omega arith)
  some_parts (part ∷ parts) k s number t e h = whole_parts part parts s number t h

  -- a text that is read to its end
  pub whole_text : (bytes : List ℕ) (t : State) → reading rules bytes ≡ Ok t → Whole rules.start (slice_split (λ b. eqb b 10) bytes) t
  whole_text bytes t h = some_parts (slice_split (λ b. eqb b 10) bytes) _ rules.start 1 t (length-slice_split (λ b. eqb b 10) bytes) h

  -- what the lines of a text do that a format reads to its end, and what is said of the states by what the lines say
  module _ (IsGood : State → Type 0) (said : State → List (List (List ℕ))) (keeps : (s u : State) (line : List ℕ) → IsGood s → rules.after s line ≡ Ok u → IsGood u × (said u ≡ said s ++ words_of line ∷ [])) where
    runs_said : (lines : List (List ℕ)) (s t : State) → IsGood s → Runs rules s lines t → IsGood t × (said t ≡ said s ++ map words_of lines)
    runs_said [] s t good h = (subst IsGood h good, sym (ap said h) ∙ sym (append-nil (said s)))
    runs_said (line ∷ lines) s t good h =
        let one = keeps s h.0 line good h.1 in
        let rest = runs_said lines h.0 t one.0 h.2 in
        (rest.0, rest.1 ∙ ap (λ (ws : List (List (List ℕ))). ws ++ map words_of lines) one.1 ∙ append_assoc (said s) (words_of line ∷ []) (map words_of lines))

    -- a text that is read to its end is that of what is said of the state that its lines leave
    pub record IsSaid (bytes : List ℕ) (t : State) : Type 0 where
      pub last : State
      pub good : IsGood last
      pub ends : rules.end last ≡ Ok t
      pub text : bytes ≡ text_of_lines (said last)

    pub read_is_said : IsGood rules.start → said rules.start ≡ [] → (bytes : List ℕ) (t : State) → reading rules bytes ≡ Ok t → IsSaid bytes t
    read_is_said good none bytes t h =
        let w = whole_text bytes t h in
        let r = runs_said w.lines rules.start w.last good w.runs in
        let words : said w.last ≡ map words_of w.lines = r.1 ∙ ap (λ (ws : List (List (List ℕ))). ws ++ map words_of w.lines) none in
        record {
          last = w.last;
          good = r.0;
          ends = w.ends;
          text = sym (join_with_byte-slice_split 10 bytes) ∙ ap (join_with_byte 10) w.split
              ∙ ap (λ (ls : List (List ℕ)). join_with_byte 10 (ls ++ [] ∷ [])) (sym (joined_words w.lines) ∙ ap (map joined) (sym words))
              ∙ text_again (said w.last);
        }

  run_read : (lines : List (List ℕ)) (s last t : State) (number : ℕ) → Runs rules s lines last → rules.end last ≡ Ok t → read_on rules s number lines [] ≡ Ok t
  run_read [] s last t number h e = ap (numbered number) (ap rules.end h ∙ e)
  run_read (line ∷ lines) s last t number h e =
      ap (λ (r : Result State Kind). and_then (numbered number r) (λ u. read_on rules u (number + 1) lines [])) h.1 ∙ run_read lines h.0 last t (number + 1) h.2 e

  -- the text of lines that lead to a state in which a text may end is read to that state
  pub written_is_read : (lines : List (List (List ℕ))) (last t : State) → AllByRecursion (AllByRecursion (IsWithout 10)) lines → Runs rules rules.start (map joined lines) last → rules.end last ≡ Ok t → reading rules (text_of_lines lines) ≡ Ok t
  written_is_read lines last t without runs e =
      ap (read_parts rules rules.start 1) (lines_again lines without)
      ∙ parts_read rules (map joined lines) rules.start 1 []
      ∙ run_read (map joined lines) rules.start last t 1 runs e
