-- What follows for a run from how a command may end and what its ending leaves.
use Rattle.std.proofs.Common.{ℕ, ◌≡◌, ◌≢◌, ◌⊎◌, IsTrue, List, Option, Some, None, inl, inr, refl, sym, subst, ◌∙◌, Contains, arith}
use Rattle.act1_outside.specs.Faults.{Rose}
use Rattle.act1_outside.specs.Outside.{Shelf, Paper, SameHeld}
use Rattle.act1_frame.specs.declared.ending.Ending.{Ending}
use Rattle.act1_frame.specs.declared.ending.FileText.{FileText}
use Rattle.act1_frame.specs.Clauses.{AnswersChosen, HasReadFault, HasLongFile, HasWriteFault, Answers, CausesAreAnswered, IsComplete, KeepsAllBut, KeepsWhatIsNotWritten}
use Rattle.act1_frame.specs.Leaving.{Says, Leaves, LeavesWith, LeavesFile, LeavesNothing, NowHolds, PrintsAll, WriteFailed, WriteFoundNoMemory, memory_text, write_fault_text}
use Rattle.act1_frame.specs.Reading.{Wanted, OnlyRead}
use Rattle.act1_frame.specs.World.{World}
use Rattle.act1_frame.proofs.Fine.{IsFine}

-- ---- from the files after the reads to the files before them

module _ (before mid after : Shelf) (only : OnlyRead before mid) where
  told : IsTrue before.tells → IsTrue mid.tells
  told t = subst IsTrue (sym only.tells) t

  same_held : SameHeld mid after → SameHeld before after
  same_held h = λ t n. h (told t) n ∙ only.held t n

  file_before : (name bytes text : List ℕ) (status : ℕ) (blank : Paper) (result : ℕ) (paper : Paper) → LeavesFile name bytes text status mid blank result after paper → LeavesFile name bytes text status before blank result after paper
  file_before name bytes text status blank result paper (others, h) = (λ t n other. others (told t) n other ∙ only.held t n, by h)
    where
      by : (NowHolds name bytes mid after × Says text status blank result paper) ⊎ ((WriteFailed name mid after × Says (write_fault_text name) 3 blank result paper) ⊎ (WriteFoundNoMemory mid after × Says memory_text 15 blank result paper))
          → (NowHolds name bytes before after × Says text status blank result paper) ⊎ ((WriteFailed name before after × Says (write_fault_text name) 3 blank result paper) ⊎ (WriteFoundNoMemory before after × Says memory_text 15 blank result paper))
      by (inl k) = inl (λ t. k.0 (told t), k.1)
      by (inr (inl k)) = inr (inl (subst (λ (n : ℕ). Rose n (after.write_faults name)) (only.writes name) k.0, k.1))
      by (inr (inr k)) = inr (inr (subst (λ (n : ℕ). Rose n after.unwritten) only.memory k.0, k.1))

  leaves_with : (file : Option FileText) (text : List ℕ) (status : ℕ) (blank : Paper) (result : ℕ) (paper : Paper) → LeavesWith file text status mid blank result after paper → LeavesWith file text status before blank result after paper
  leaves_with None text status blank result paper h = (same_held h.0, h.1)
  leaves_with (Some file) text status blank result paper h = file_before file.name file.bytes text status blank result paper h

  pub leaves_before : (e : Ending) (blank : Paper) (result : ℕ) (paper : Paper) → Leaves e mid blank result after paper → Leaves e before blank result after paper
  leaves_before e blank result paper (inl h) = inl (leaves_with e.file e.text e.status blank result paper h)
  leaves_before e blank result paper (inr h) = inr (same_held h.0, h.1)

  pub nothing_before : (blank : Paper) (result : ℕ) (paper : Paper) → LeavesNothing mid blank result after paper → LeavesNothing before blank result after paper
  nothing_before blank result paper h = (same_held h.0, h.1)

-- ---- each clause

-- a status at which a text is printed whole: no fault of writing and no want of memory has it
pub record IsSaid (status : ℕ) : Type 0 where
  pub three : status ≢ 3
  pub fifteen : status ≢ 15

pub said_at : (status : ℕ) → status ≢ 3 → status ≢ 15 → IsSaid status
said_at status three fifteen = record { three = three; fifteen = fifteen }

pub done_said : IsSaid 0
done_said = record { three = λ z. absurd (omega (arith, z)); fifteen = λ z. absurd (omega (arith, z)) }

module _ (n : ℕ) (is : IsSaid n) where
  -- what is said with another status leaves another
  not_said : (text : List ℕ) (status : ℕ) (blank : Paper) (result : ℕ) (paper : Paper) → status ≢ n → Says text status blank result paper → result ≡ n → ⊥
  not_said text status blank result paper other (inl h) e = other (sym h.0 ∙ e)
  not_said text status blank result paper other (inr (inl h)) e = is.three (sym e ∙ h.0)
  not_said text status blank result paper other (inr (inr h)) e = is.fifteen (sym e ∙ h.0)

  -- what is said at such a status is printed whole
  all_said : (text : List ℕ) (status : ℕ) (blank : Paper) (result : ℕ) (paper : Paper) → Says text status blank result paper → result ≡ n → PrintsAll text blank paper
  all_said text status blank result paper (inl h) e = h.1
  all_said text status blank result paper (inr (inl h)) e = elim (is.three (sym e ∙ h.0)) [ ]
  all_said text status blank result paper (inr (inr h)) e = elim (is.fifteen (sym e ∙ h.0)) [ ]

  -- at such a status the text of an ending without a file is printed
  pub text_printed : (e : Ending) (before : Shelf) (blank : Paper) (result : ℕ) (after : Shelf) (paper : Paper) → e.file ≡ None → Leaves e before blank result after paper → result ≡ n → PrintsAll e.text blank paper
  text_printed e before blank result after paper none (inl h) r =
      let k = subst (λ (f : Option FileText). LeavesWith f e.text e.status before blank result after paper) none h in
      all_said e.text e.status blank result paper k.1 r
  text_printed e before blank result after paper none (inr h) r = elim (not_said memory_text 15 blank result paper (λ z. is.fifteen (sym z)) h.1 r) [ ]

-- the file of an ending is written, and its text printed
pub record IsWritten (file : FileText) (text : List ℕ) (before : Shelf) (blank : Paper) (after : Shelf) (paper : Paper) : Type 0 where
  pub holds : NowHolds file.name file.bytes before after
  pub printed : PrintsAll text blank paper

-- .. at such a status
pub file_written : (n : ℕ) → IsSaid n → (e : Ending) (file : FileText) (before : Shelf) (blank : Paper) (result : ℕ) (after : Shelf) (paper : Paper) → e.file ≡ Some file → Leaves e before blank result after paper → result ≡ n
    → IsWritten file e.text before blank after paper
file_written n said e file before blank result after paper is (inl h) r = by (subst (λ (f : Option FileText). LeavesWith f e.text e.status before blank result after paper) is h)
  where
    by : LeavesFile file.name file.bytes e.text e.status before blank result after paper → IsWritten file e.text before blank after paper
    by (others, inl k) = record { holds = k.0; printed = all_said n said e.text e.status blank result paper k.1 r }
    by (others, inr (inl k)) = elim (not_said n said (write_fault_text file.name) 3 blank result paper (λ z. said.three (sym z)) k.1 r) [ ]
    by (others, inr (inr k)) = elim (not_said n said memory_text 15 blank result paper (λ z. said.fifteen (sym z)) k.1 r) [ ]
file_written n said e file before blank result after paper is (inr h) r = elim (not_said n said memory_text 15 blank result paper (λ z. said.fifteen (sym z)) h.1 r) [ ]

module _ (writes : List (List ℕ)) (before : World) (result : ℕ) (after : World) where
  said : (text : List ℕ) (status : ℕ) → Says text status before.paper result after.paper → Answers status writes before result after
  said text status (inl h) = inl h.0
  said text status (inr (inl h)) = inr (inl (h.0, inl h.1))
  said text status (inr (inr h)) = inr (inr h.0)

  said_memory : (status : ℕ) → Says memory_text 15 before.paper result after.paper → Answers status writes before result after
  said_memory status (inl h) = inr (inr h.0)
  said_memory status (inr (inl h)) = inr (inl (h.0, inl h.1))
  said_memory status (inr (inr h)) = inr (inr h.0)

  said_fault : (status : ℕ) (text : List ℕ) → HasWriteFault writes before after → Says text 3 before.paper result after.paper → Answers status writes before result after
  said_fault status text fault (inl h) = inr (inl (h.0, fault))
  said_fault status text fault (inr (inl h)) = inr (inl (h.0, fault))
  said_fault status text fault (inr (inr h)) = inr (inr h.0)

  answered_with : (file : Option FileText) (text : List ℕ) (status : ℕ) → ((f : FileText) → file ≡ Some f → Contains writes f.name) → LeavesWith file text status before.shelf before.paper result after.shelf after.paper → Answers status writes before result after
  answered_with None text status named h = said text status h.1
  answered_with (Some file) text status named (others, inl h) = said text status h.1
  answered_with (Some file) text status named (others, inr (inl h)) = said_fault status (write_fault_text file.name) (inr (file.name, named file refl, h.0)) h.1
  answered_with (Some file) text status named (others, inr (inr h)) = said_memory status h.1

  -- an ending is answered by its status, or 3 or 15 with their causes
  pub answered : (e : Ending) → ((f : FileText) → e.file ≡ Some f → Contains writes f.name) → Leaves e before.shelf before.paper result after.shelf after.paper → Answers e.status writes before result after
  answered e named (inl h) = answered_with e.file e.text e.status named h
  answered e named (inr h) = said_memory e.status h.1

  -- the status is 3 only with a fault of writing
  fault_of : (status : ℕ) → status ≢ 3 → Answers status writes before result after → result ≡ 3 → HasWriteFault writes before after
  fault_of status other (inl h) three = elim (other (sym h ∙ three)) [ ]
  fault_of status other (inr (inl h)) three = h.1
  fault_of status other (inr (inr h)) three = absurd (omega arith)

  -- a status other than 3 and 15 is that of the ending
  pub status_is : (status n : ℕ) → n ≢ 3 → n ≢ 15 → Answers status writes before result after → result ≡ n → status ≡ n
  status_is status n three fifteen (inl h) e = sym h ∙ e
  status_is status n three fifteen (inr (inl h)) e = elim (three (sym e ∙ h.0)) [ ]
  status_is status n three fifteen (inr (inr h)) e = elim (fifteen (sym e ∙ h)) [ ]

  complete : (May : Shelf → Shelf → Ending → Type 0) (e : Ending) → May before.shelf after.shelf e → Answers e.status writes before result after → IsComplete May writes before result after
  complete May e may (inl h) no_fault zero = inl (h ∙ zero e may)
  complete May e may (inr (inl h)) no_fault zero = elim (no_fault h.1) [ ]
  complete May e may (inr (inr h)) no_fault zero = inr h

  kept_with : (names : List (List ℕ)) (file : Option FileText) (text : List ℕ) (status : ℕ) → ((f : FileText) → file ≡ Some f → Contains names f.name) → LeavesWith file text status before.shelf before.paper result after.shelf after.paper → KeepsAllBut names before after
  kept_with names None text status named h = λ told n not_written. h.0 told n
  kept_with names (Some file) text status named h =
      λ told n not_written. h.0 told n (λ same. not_written (subst (λ (m : List ℕ). Contains names m) (sym same) (named file refl)))

  kept_but : (names : List (List ℕ)) (e : Ending) → ((f : FileText) → e.file ≡ Some f → Contains names f.name) → Leaves e before.shelf before.paper result after.shelf after.paper → KeepsAllBut names before after
  kept_but names e named (inl h) = kept_with names e.file e.text e.status named h
  kept_but names e named (inr h) = λ told n not_written. h.0 told n

module _ (Usage : Type 0) (reads : List Wanted) (writes : List (List ℕ)) (writes_at : ℕ → List (List ℕ)) (Chosen : Ending → Type 0) (May : Shelf → Shelf → Ending → Type 0) where
  -- what a command owes: which endings it may have, that these stay where only files are written, that they have one status unless it may choose between them, and that what is written at a status is one of its files
  pub record IsLawful : Type 0 where
    pub fine : (before after : Shelf) (e : Ending) → May before after e → IsFine Usage reads writes_at before after e
    pub later : (before mid after : Shelf) → ((n : List ℕ) → after.read_faults n ≡ mid.read_faults n) → (e : Ending) → May before mid e → May before after e
    pub one : (before after : Shelf) → IsTrue before.tells → (HasReadFault reads before after → ⊥) → (e p : Ending) → May before after e → May before after p → (e.status ≡ p.status) ⊎ (Chosen e × Chosen p)
    pub named : (status : ℕ) (name : List ℕ) → Contains (writes_at status) name → Contains writes name

  module _ (lawful : IsLawful) (before : World) (result : ℕ) (after : World) (e : Ending) (may : May before.shelf after.shelf e) (leaves : Leaves e before.shelf before.paper result after.shelf after.paper) where
    fine : IsFine Usage reads writes_at before.shelf after.shelf e
    fine = lawful.fine before.shelf after.shelf e may

    named : (f : FileText) → e.file ≡ Some f → Contains writes f.name
    named f is = lawful.named e.status f.name (fine.file f is)

    answer : Answers e.status writes before result after
    answer = answered writes before result after e named leaves

    pub status_at : (n : ℕ) → n ≢ 3 → n ≢ 15 → result ≡ n → e.status ≡ n
    status_at n three fifteen h = status_is writes before result after e.status n three fifteen answer h

    pub causes : CausesAreAnswered Chosen May reads writes before result after
    causes told no_fault p other = by (lawful.one before.shelf after.shelf told no_fault e p may other)
      where
        by : (e.status ≡ p.status) ⊎ (Chosen e × Chosen p) → Answers p.status writes before result after ⊎ (Chosen p × AnswersChosen Chosen May writes before result after)
        by (inl same) = inl (subst (λ (n : ℕ). Answers n writes before result after) same answer)
        by (inr h) = inr (h.1, (e, may, h.0, answer))

    pub is_complete : IsComplete May writes before result after
    is_complete = complete writes before result after May e may answer

    pub answers : (status : ℕ) → e.status ≡ status → Answers status writes before result after
    answers status h = subst (λ (n : ℕ). Answers n writes before result after) h answer

    pub usage : result ≡ 1 → Usage
    usage h = fine.words (status_at 1 (λ z. absurd (omega (arith, z))) (λ z. absurd (omega (arith, z))) h)

    pub read_fault : result ≡ 2 → HasReadFault reads before.shelf after.shelf
    read_fault h = fine.read (status_at 2 (λ z. absurd (omega (arith, z))) (λ z. absurd (omega (arith, z))) h)

    pub write_fault : result ≡ 3 → HasWriteFault writes before after
    write_fault h = fault_of writes before result after e.status fine.three answer h

    pub too_long : result ≡ 16 → HasLongFile reads before.shelf
    too_long h = fine.long (status_at 16 (λ z. absurd (omega (arith, z))) (λ z. absurd (omega (arith, z))) h)

    pub others : KeepsAllBut writes before after
    others = kept_but writes before result after writes e named leaves

    pub kept : KeepsWhatIsNotWritten writes_at before result after
    kept three fifteen =
        let same = status_at result three fifteen refl in
        kept_but writes before result after (writes_at result) e (λ f is. subst (λ (n : ℕ). Contains (writes_at n) f.name) same (fine.file f is)) leaves
