-- Why the line that a format's rules fault first is the first faulty line of its texts, and why there is one at most.
use Rattle.std.proofs.Common.{ℕ, ◌≡◌, ◌≢◌, ◌<◌, ◌+◌, ◌⊎◌, Bool, true, false, cond, eqb, List, [], ◌∷◌, ◌++◌, length, Result, Ok, Err, refl, sym, ap, subst, ◌∙◌, inl, inr, append_assoc, append-nil, arith}
use Rattle.std.specs.Prelude.{IsOk}
use Rattle.std.specs.List.{slice_split, onto_first, join_with_byte, AllByRecursion}
use Rattle.std.proofs.lemmas.Bool.{cases_order}
use Rattle.std.proofs.lemmas.Bool.Decides.{nat_tests}
use Rattle.std.proofs.lemmas.List.{length-append, same_from_push}
use Rattle.std.proofs.lemmas.List.Concat.{flat_map-append}
use Rattle.std.proofs.lemmas.List.Elements.{All-from_recursion}
use Rattle.std.proofs.lemmas.List.Splits.{join_with_byte-slice_split, slice_split_at, slice_split_none, length-slice_split}
use Rattle.act1_base.specs.declared.texts.Stop.{Stop}
use Rattle.act1_base.specs.declared.texts.Stop.TheVariants as stop
use Rattle.act1_base.specs.declared.texts.TextFault.{TextFault}
use Rattle.act1_base.specs.FirstFault.{IsOneLine, ended, Begins, IsFaultyBehind, IsFirstFaultyLine, Runs, ReadsTheTexts, CanBeCompleted, IsReadAs}
use Rattle.act1_base.specs.Texts.{LineRules, Gives, numbered, at_end, and_then, read_parts, reading}
use Rattle.act1_base.proofs.TextLines.{IsWithout}
use Rattle.act1_base.proofs.TextLaws.{Whole, whole_text}

-- the parts of the bytes that line feeds part
abbrev parts_of : List ℕ → List (List ℕ)
parts_of bytes = slice_split (λ b. eqb b 10) bytes

no_feed : (b : ℕ) → b ≢ 10 → eqb b 10 ≡ false
no_feed b apart = grind (arith, nat_tests)

is_feed : (b : ℕ) → eqb b 10 ≡ false → b ≢ 10
is_feed b e h = grind (arith, nat_tests)

pub one_line_is : (bytes : List ℕ) → IsOneLine bytes → IsWithout 10 bytes
one_line_is [] h = tt
one_line_is (b ∷ bytes) h = (no_feed b h.0, one_line_is bytes h.1)

pub is_one_line : (bytes : List ℕ) → IsWithout 10 bytes → IsOneLine bytes
is_one_line [] h = tt
is_one_line (b ∷ bytes) h = (is_feed b h.0, is_one_line bytes h.1)

-- a line goes to its line feed
split_line : (line rest : List ℕ) → IsOneLine line → parts_of (line ++ 10 ∷ rest) ≡ line ∷ parts_of rest
split_line line rest h = slice_split_at (λ b. eqb b 10) line 10 rest (All-from_recursion (λ b. eqb b 10 ≡ false) line (one_line_is line h)) refl

-- the first of some lines, and what stands behind it
ended_more : (line : List ℕ) (lines : List (List ℕ)) (rest : List ℕ) → ended (line ∷ lines) ++ rest ≡ line ++ 10 ∷ (ended lines ++ rest)
ended_more line lines rest = ap (λ (text : List ℕ). text ++ rest) (append_assoc line (10 ∷ []) (ended lines)) ∙ append_assoc line (10 ∷ ended lines) rest

pub split_ended : (lines : List (List ℕ)) (rest : List ℕ) → AllByRecursion IsOneLine lines → parts_of (ended lines ++ rest) ≡ lines ++ parts_of rest
split_ended [] rest h = refl
split_ended (line ∷ lines) rest h =
    ap parts_of (ended_more line lines rest)
    ∙ split_line line (ended lines ++ rest) h.0
    ∙ ap (λ (ps : List (List ℕ)). line ∷ ps) (split_ended lines rest h.1)

pub ended_append : (xs ys : List (List ℕ)) → ended (xs ++ ys) ≡ ended xs ++ ended ys
ended_append xs ys = flat_map-append (λ (line : List ℕ). line ++ 10 ∷ []) xs ys

onto_line : (b : ℕ) (parts : List (List ℕ)) → b ≢ 10 → AllByRecursion IsOneLine parts → AllByRecursion IsOneLine (onto_first b parts)
onto_line b [] apart h = ((apart, tt), tt)
onto_line b (part ∷ parts) apart h = ((apart, h.0), h.1)

-- no part has a line feed
parts_are_lines : (bytes : List ℕ) → AllByRecursion IsOneLine (parts_of bytes)
parts_are_lines [] = (tt, tt)
parts_are_lines (b ∷ bytes) = by (eqb b 10) refl (parts_are_lines bytes)
  where
    by : (feed : Bool) → eqb b 10 ≡ feed → AllByRecursion IsOneLine (parts_of bytes) → AllByRecursion IsOneLine (cond feed ([] ∷ parts_of bytes) (onto_first b (parts_of bytes)))
    by true e h = (tt, h)
    by false e h = onto_line b (parts_of bytes) (is_feed b e) h

-- what holds of all of two lists holds of each
all_parts : (xs ys : List (List ℕ)) → AllByRecursion IsOneLine (xs ++ ys) → AllByRecursion IsOneLine xs × AllByRecursion IsOneLine ys
all_parts [] ys h = (tt, h)
all_parts (x ∷ xs) ys h = let r = all_parts xs ys h.1 in ((h.0, r.0), r.1)

all_both : (xs ys : List (List ℕ)) → AllByRecursion IsOneLine xs → AllByRecursion IsOneLine ys → AllByRecursion IsOneLine (xs ++ ys)
all_both [] ys h k = k
all_both (x ∷ xs) ys h k = (h.0, all_both xs ys h.1 k)

join_next : (line : List ℕ) (parts : List (List ℕ)) → 0 < length parts → join_with_byte 10 (line ∷ parts) ≡ line ++ 10 ∷ join_with_byte 10 parts
join_next line [] some = absurd (omega arith)
join_next line (part ∷ parts) some = refl

-- lines and what stands behind them, put together
joined_ended : (before : List (List ℕ)) (part : List ℕ) (parts : List (List ℕ)) → join_with_byte 10 (before ++ part ∷ parts) ≡ ended before ++ join_with_byte 10 (part ∷ parts)
joined_ended [] part parts = refl
joined_ended (line ∷ before) part parts =
    let long = length-append before (part ∷ parts) in
    join_next line (before ++ part ∷ parts) (omega arith)
    ∙ ap (λ (rest : List ℕ). line ++ 10 ∷ rest) (joined_ended before part parts)
    ∙ sym (ended_more line before (join_with_byte 10 (part ∷ parts)))

module _ {State Kind : Type 0} (rules : LineRules State Kind) where
  runs_on : (s t u : State) (xs ys : List (List ℕ)) → Runs rules s xs t → Runs rules t ys u → Runs rules s (xs ++ ys) u
  runs_on s t u [] ys h k = subst (λ (v : State). Runs rules v ys u) (sym h) k
  runs_on s t u (x ∷ xs) ys h k = (h.0, h.1, runs_on h.0 t u xs ys h.2 k)

  -- the rules fault the first of these parts
  abbrev Faults : State → List (List ℕ) → Kind → Type 0
  Faults s [] k = ⊥
  Faults s (part ∷ []) k = at_end rules s part ≡ Err k
  Faults s (part ∷ next ∷ parts) k = rules.after s part ≡ Err k

  -- where the rules stop in the parts of a text
  record Stops (s : State) (number : ℕ) (parts : List (List ℕ)) (fault : TextFault Kind) : Type 0 where
    before : List (List ℕ)
    after : List (List ℕ)
    last : State
    split : parts ≡ before ++ after
    runs : Runs rules s before last
    stops : Faults last after fault.kind
    count : fault.line ≡ number + length before

  fault_is : (number : ℕ) (r : Result State Kind) (fault : TextFault Kind) → numbered number r ≡ Err fault → (r ≡ Err fault.kind) × (fault.line ≡ number)
  fault_is number (Ok s) fault e = cc
  fault_is number (Err k) fault e =
      let same : record { line = number; kind = k } ≡ fault = cc in
      (ap (λ (f : TextFault Kind). let r : Result State Kind = Err f.kind in r) same, sym (ap (λ (f : TextFault Kind). f.line) same))

  stop_later : (line : List ℕ) (parts : List (List ℕ)) (s next : State) (number : ℕ) (fault : TextFault Kind) → rules.after s line ≡ Ok next → Stops next (number + 1) parts fault → Stops s number (line ∷ parts) fault
  stop_later line parts s next number fault step r = record {
    before = line ∷ r.before;
    after = r.after;
    last = r.last;
    split = ap (λ (ps : List (List ℕ)). line ∷ ps) r.split;
    runs = (next, step, r.runs);
    stops = r.stops;
    count = let c = r.count in omega arith;
  }

  stops_by : (line part : List ℕ) (parts : List (List ℕ)) (s : State) (number : ℕ) (fault : TextFault Kind) (after : State → Result State (TextFault Kind)) (r : Result State Kind) → rules.after s line ≡ r
      → ((u : State) → after u ≡ Err fault → Stops u (number + 1) (part ∷ parts) fault) → and_then (numbered number r) after ≡ Err fault → Stops s number (line ∷ part ∷ parts) fault
  stops_by line part parts s number fault after (Ok u) step rest e = stop_later line (part ∷ parts) s u number fault step (rest u e)
  stops_by line part parts s number fault after (Err k) step rest e =
      let f = fault_is number (Err k) fault e in
      let line_is = f.1 in record {
        before = [];
        after = line ∷ part ∷ parts;
        last = s;
        split = refl;
        runs = refl;
        stops = step ∙ f.0;
        count = omega arith;
      }

  stops_at : (part : List ℕ) (parts : List (List ℕ)) (s : State) (number : ℕ) (fault : TextFault Kind) → read_parts rules s number (part ∷ parts) ≡ Err fault → Stops s number (part ∷ parts) fault
  stops_at part [] s number fault e =
      let f = fault_is number (at_end rules s part) fault e in
      let line_is = f.1 in record {
        before = [];
        after = part ∷ [];
        last = s;
        split = refl;
        runs = refl;
        stops = f.0;
        count = omega arith;
      }
  stops_at part (next ∷ parts) s number fault e =
      stops_by part next parts s number fault (λ u. read_parts rules u (number + 1) (next ∷ parts)) (rules.after s part) refl
      (λ u h. stops_at next parts u (number + 1) fault h) e

  some_stop : (parts : List (List ℕ)) (s : State) (number : ℕ) (fault : TextFault Kind) → 0 < length parts → read_parts rules s number parts ≡ Err fault → Stops s number parts fault
  some_stop [] s number fault some e = absurd (omega arith)
  some_stop (part ∷ parts) s number fault some e = stops_at part parts s number fault e

  read_next : (line : List ℕ) (parts : List (List ℕ)) (s : State) (number : ℕ) → 0 < length parts
      → read_parts rules s number (line ∷ parts) ≡ and_then (numbered number (rules.after s line)) (λ t. read_parts rules t (number + 1) parts)
  read_next line [] s number some = absurd (omega arith)
  read_next line (part ∷ parts) s number some = refl

  -- behind lines that the rules take, the reading goes on
  read_behind : (before : List (List ℕ)) (part : List ℕ) (parts : List (List ℕ)) (s last : State) (number : ℕ) → Runs rules s before last
      → read_parts rules s number (before ++ part ∷ parts) ≡ read_parts rules last (number + length before) (part ∷ parts)
  read_behind [] part parts s last number h =
      let none : number ≡ number + 0 = omega arith in
      ap (λ (t : State). read_parts rules t number (part ∷ parts)) h ∙ ap (λ (n : ℕ). read_parts rules last n (part ∷ parts)) none
  read_behind (line ∷ before) part parts s last number h =
      let long = length-append before (part ∷ parts) in
      let count : (number + 1) + length before ≡ number + length (line ∷ before) = omega arith in
      read_next line (before ++ part ∷ parts) s number (omega arith)
      ∙ ap (λ (r : Result State Kind). and_then (numbered number r) (λ t. read_parts rules t (number + 1) (before ++ part ∷ parts))) h.1
      ∙ read_behind before part parts h.0 last (number + 1) h.2
      ∙ ap (λ (n : ℕ). read_parts rules last n (part ∷ parts)) count

  not_ok : (r : Result State (TextFault Kind)) (fault : TextFault Kind) → r ≡ Err fault → IsOk r → ⊥
  not_ok r fault e h = cc

  some_parts : (bytes : List ℕ) → 0 < length (parts_of bytes)
  some_parts bytes = let long = length-slice_split (λ b. eqb b 10) bytes in omega arith

  -- a line that is faulted behind others is faulted whatever stands behind it
  faulted : (before : List (List ℕ)) (line : List ℕ) (parts : List (List ℕ)) (s last : State) (number : ℕ) (k : Kind) → 0 < length parts → Runs rules s before last → rules.after last line ≡ Err k
      → read_parts rules s number (before ++ line ∷ parts) ≡ Err (record { line = number + length before; kind = k })
  faulted before line parts s last number k some h e =
      read_behind before line parts s last number h
      ∙ read_next line parts last (number + length before) some
      ∙ ap (λ (r : Result State Kind). and_then (numbered (number + length before) r) (λ t. read_parts rules t (number + length before + 1) parts)) e

  module _ (IsText : List ℕ → Type 0) (reads : ReadsTheTexts rules IsText) where
    -- lines that lead to a state in which a text may end are a text
    run_is_text : (lines : List (List ℕ)) (last t : State) → AllByRecursion IsOneLine lines → Runs rules rules.start lines last → rules.end last ≡ Ok t → IsText (ended lines)
    run_is_text lines last t one h e =
        let bytes = ended lines in
        let split : parts_of bytes ≡ lines ++ [] ∷ [] = ap parts_of (sym (append-nil bytes)) ∙ split_ended lines [] one in
        let read : reading rules bytes ≡ Ok t
        = ap (read_parts rules rules.start 1) split ∙ read_behind lines [] [] rules.start last 1 h ∙ ap (numbered (1 + length lines)) e in
        (reads bytes).1 (cc)

    -- what stands behind lines that the rules take and is faulted is faulty
    faulty : (before after : List (List ℕ)) (last : State) (k : Kind) → AllByRecursion IsOneLine before → AllByRecursion IsOneLine after → Runs rules rules.start before last → Faults last after k
        → IsFaultyBehind IsText before (join_with_byte 10 after)
    faulty before [] last k one all h e = absurd e
    faulty before ([] ∷ []) last k one all h e = inr (inr (refl, λ is. not_ok (reading rules (ended before)) (record { line = 1 + length before; kind = k }) read ((reads (ended before)).0 is)))
      where
        read : reading rules (ended before) ≡ Err (record { line = 1 + length before; kind = k })
        read =
            ap (read_parts rules rules.start 1) (ap parts_of (sym (append-nil (ended before))) ∙ split_ended before [] one)
            ∙ read_behind before [] [] rules.start last 1 h ∙ ap (numbered (1 + length before)) e
    faulty before ((b ∷ bytes) ∷ []) last k one all h e = inr (inl (λ none. cc, all.0))
    faulty before (line ∷ next ∷ parts) last k one all h e = inl (line, join_with_byte 10 (next ∷ parts), refl, all.0, λ begins. never begins.0 begins.1)
      where
        never : (rest : List ℕ) → IsText (ended (before ++ line ∷ []) ++ rest) → ⊥
        never rest is =
            let split = split_ended (before ++ line ∷ []) rest (all_both before (line ∷ []) one (all.0, tt)) ∙ append_assoc before (line ∷ []) (parts_of rest) in
            let read = ap (read_parts rules rules.start 1) split ∙ faulted before line (parts_of rest) rules.start last 1 k (some_parts rest) h e in
            not_ok (reading rules (ended (before ++ line ∷ []) ++ rest)) _ read ((reads (ended (before ++ line ∷ []) ++ rest)).0 is)

    -- what is faulted is the first faulty line
    pub fault_is_first : CanBeCompleted rules → (bytes : List ℕ) (fault : TextFault Kind) → reading rules bytes ≡ Err fault → IsFirstFaultyLine IsText bytes fault.line
    fault_is_first completes bytes fault e =
        let r = some_stop (parts_of bytes) rules.start 1 fault (some_parts bytes) e in
        let all = all_parts r.before r.after (subst (λ (ps : List (List ℕ)). AllByRecursion IsOneLine ps) r.split (parts_are_lines bytes)) in
        let c = completes r.before r.last r.runs in
        let count = r.count in record {
          before = r.before;
          rest = join_with_byte 10 r.after;
          parts = sym (join_with_byte-slice_split 10 bytes) ∙ ap (join_with_byte 10) r.split ∙ put_together r.before r.after r.last fault.kind r.stops;
          lines = all.0;
          count = omega arith;
          begins = (
            ended c.more,
            subst IsText (ended_append r.before c.more)
                (run_is_text (r.before ++ c.more) c.last c.end (all_both r.before c.more all.0 c.lines) (runs_on rules.start r.last c.last r.before c.more r.runs c.runs) c.ends),
          );
          faulty = faulty r.before r.after r.last fault.kind all.0 all.1 r.runs r.stops;
        }
      where
        put_together : (before after : List (List ℕ)) (last : State) (k : Kind) → Faults last after k → join_with_byte 10 (before ++ after) ≡ ended before ++ join_with_byte 10 after
        put_together before [] last k h = absurd h
        put_together before (part ∷ parts) last k h = joined_ended before part parts

-- two lines with their line feeds, and what stands behind them
same_line : (x y a b : List ℕ) → IsOneLine x → IsOneLine y → x ++ 10 ∷ a ≡ y ++ 10 ∷ b → (x ≡ y) × (a ≡ b)
same_line [] [] a b h k e = (refl, cc)
same_line [] (d ∷ y) a b h k e = absurd (k.0 (cc))
same_line (c ∷ x) [] a b h k e = absurd (h.0 (cc))
same_line (c ∷ x) (d ∷ y) a b h k e =
    let first : c ≡ d = cc in
    let rest : x ++ 10 ∷ a ≡ y ++ 10 ∷ b = cc in
    let r = same_line x y a b h.1 k.1 rest in
    (ap (λ (n : ℕ). n ∷ x) first ∙ ap (λ (l : List ℕ). d ∷ l) r.0, r.1)

-- bytes that lack their line feed have none
no_line : (x a : List ℕ) → IsOneLine (x ++ 10 ∷ a) → ⊥
no_line [] a h = h.0 refl
no_line (b ∷ x) a h = no_line x a h.1

-- of two ways to part the bytes, that with more lines has a line more behind the lines of the other
record Ahead (before other : List (List ℕ)) (rest : List ℕ) : Type 0 where
  line : List ℕ
  more : List (List ℕ)
  after : List ℕ
  lines : other ≡ before ++ line ∷ more
  one : IsOneLine line
  is : rest ≡ line ++ 10 ∷ after

ahead : (before other : List (List ℕ)) (rest behind : List ℕ) → AllByRecursion IsOneLine before → AllByRecursion IsOneLine other → ended before ++ rest ≡ ended other ++ behind → length before < length other → Ahead before other rest
ahead before [] rest behind h k e less = absurd (omega arith)
ahead [] (line ∷ more) rest behind h k e less = record { line = line; more = more; after = ended more ++ behind; lines = refl; one = k.0; is = e ∙ ended_more line more behind }
ahead (x ∷ before) (y ∷ other) rest behind h k e less =
    let both = same_line x y (ended before ++ rest) (ended other ++ behind) h.0 k.0 (sym (ended_more x before rest) ∙ e ∙ ended_more y other behind) in
    let r = ahead before other rest behind h.1 k.1 both.1 (omega (arith, less)) in record {
      line = r.line;
      more = r.more;
      after = r.after;
      lines = ap (λ (l : List ℕ). l ∷ other) (sym both.0) ∙ ap (λ (ls : List (List ℕ)). x ∷ ls) r.lines;
      one = r.one;
      is = r.is;
    }

module _ (IsText : List ℕ → Type 0) where
  begins_less : (front more : List ℕ) → Begins IsText (front ++ more) → Begins IsText front
  begins_less front more b = (more ++ b.0, subst IsText (append_assoc front more b.0) b.1)

  -- a line before which another is faulty isn't the first
  never_later : (bytes : List ℕ) (m n : ℕ) → IsFirstFaultyLine IsText bytes m → IsFirstFaultyLine IsText bytes n → m < n → ⊥
  never_later bytes m n f g less = by f.faulty
    where
      more : Ahead f.before g.before f.rest
      more = let low = f.count in let high = g.count in ahead f.before g.before f.rest g.rest f.lines g.lines (sym f.parts ∙ g.parts) (omega (arith, less))

      fronts : ended g.before ≡ ended (f.before ++ more.line ∷ []) ++ ended more.more
      fronts = ap ended (more.lines ∙ sym (append_assoc f.before (more.line ∷ []) more.more)) ∙ ended_append (f.before ++ more.line ∷ []) more.more

      begun : Begins IsText (ended (f.before ++ more.line ∷ []))
      begun = begins_less (ended (f.before ++ more.line ∷ [])) (ended more.more) (subst (λ (front : List ℕ). Begins IsText front) fronts g.begins)

      by : IsFaultyBehind IsText f.before f.rest → ⊥
      by (inl (line, after, is, one, none)) =
          let same = same_line more.line line more.after after more.one one (sym more.is ∙ is) in
          none (subst (λ (l : List ℕ). Begins IsText (ended (f.before ++ l ∷ []))) same.0 begun)
      by (inr (inl (some, one))) = no_line more.line more.after (subst IsOneLine more.is one)
      by (inr (inr (none, cut))) = let e : [] ≡ more.line ++ 10 ∷ more.after = sym none ∙ more.is in never more.line more.after e
        where
          never : (x a : List ℕ) → [] ≡ x ++ 10 ∷ a → ⊥
          never [] a e = cc
          never (b ∷ x) a e = cc

  -- bytes have one first faulty line at most
  pub one_first : (bytes : List ℕ) (m n : ℕ) → IsFirstFaultyLine IsText bytes m → IsFirstFaultyLine IsText bytes n → m ≡ n
  one_first bytes m n f g = by (cases_order m n)
    where
      by : (m ≡ n) ⊎ ((m < n) ⊎ (n < m)) → m ≡ n
      by (inl same) = same
      by (inr (inl less)) = absurd (never_later bytes m n f g less)
      by (inr (inr more)) = absurd (never_later bytes n m g f more)

module _ {State Kind : Type 0} (rules : LineRules State Kind) (IsText : List ℕ → Type 0) (reads : ReadsTheTexts rules IsText) where
  -- a text that is read to its end has no first faulty line
  no_text : (bytes : List ℕ) (n : ℕ) (t : State) → reading rules bytes ≡ Ok t → IsFirstFaultyLine IsText bytes n → ⊥
  no_text bytes n t e f = by f.faulty
    where
      is : IsText bytes
      is = (reads bytes).1 (cc)

      whole : Whole rules rules.start (parts_of bytes) t
      whole = whole_text rules bytes t e

      by : IsFaultyBehind IsText f.before f.rest → ⊥
      by (inl (line, after, rest, one, none)) =
          none (
            after,
            subst IsText
                (f.parts ∙ ap (λ (r : List ℕ). ended f.before ++ r) (rest ∙ sym (ended_more line [] after))
                ∙ sym (append_assoc (ended f.before) (ended (line ∷ [])) after)
                ∙ ap (λ (front : List ℕ). front ++ after) (sym (ended_append f.before (line ∷ [])))) is,
          )
      by (inr (inl (some, one))) =
          let split : parts_of bytes ≡ f.before ++ f.rest ∷ []
          = ap parts_of f.parts ∙ split_ended f.before f.rest f.lines
          ∙ ap (λ (ps : List (List ℕ)). f.before ++ ps) (slice_split_none (λ b. eqb b 10) f.rest (All-from_recursion (λ b. eqb b 10 ≡ false) f.rest (one_line_is f.rest one))) in
          some (same_from_push f.before whole.lines f.rest [] (sym split ∙ whole.split)).1
      by (inr (inr (none, cut))) = cut (subst IsText (f.parts ∙ ap (λ (r : List ℕ). ended f.before ++ r) none ∙ append-nil (ended f.before)) is)

  -- the first faulty line is faulted
  pub first_is_fault : CanBeCompleted rules → (bytes : List ℕ) (n : ℕ) → IsFirstFaultyLine IsText bytes n → (k : Kind) × (reading rules bytes ≡ Err (record { line = n; kind = k }))
  first_is_fault completes bytes n f = by (reading rules bytes) refl
    where
      by : (r : Result State (TextFault Kind)) → reading rules bytes ≡ r → (k : Kind) × (reading rules bytes ≡ Err (record { line = n; kind = k }))
      by (Ok t) e = absurd (no_text bytes n t e f)
      by (Err fault) e =
          let same = one_first IsText bytes fault.line n (fault_is_first rules IsText reads completes bytes fault e) f in
          (fault.kind, e ∙ ap (λ (m : ℕ). let r : Result State (TextFault Kind) = Err (record { line = m; kind = fault.kind }) in r) same)

  -- what a reading says of the texts
  pub read_as : CanBeCompleted rules → (bytes : List ℕ) (result : Result State (Stop (TextFault Kind))) → Gives result (reading rules bytes) → IsReadAs IsText bytes result
  read_as completes bytes (Ok t) e = (reads bytes).1 (cc)
  read_as completes bytes (Err (stop.Fault fault)) e = fault_is_first rules IsText reads completes bytes fault e
  read_as completes bytes (Err stop.Memory) e = tt
