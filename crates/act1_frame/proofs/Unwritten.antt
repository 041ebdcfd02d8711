-- What a write leaves, as what the ending leaves.
use Rattle.std.proofs.Common.{ℕ, ◌≡◌, List, Option, Some, Result, Err, inl, inr, sym, subst}
use Rattle.act1_outside.specs.Outside.{Shelf, Paper, Writes}
use Rattle.act1_outside.specs.declared.files.FileFault.{FileFault}
use Rattle.act1_outside.specs.declared.files.FileFault.TheVariants.{Failed}
use Rattle.act1_frame.specs.declared.ending.Ending.{Ending}
use Rattle.act1_frame.specs.declared.ending.FileText.{FileText}
use Rattle.act1_frame.specs.Leaving.{Leaves, LeavesFile, LeavesWith, Says, write_fault_text}

-- a write that failed
pub unwritten : (name bytes fault text : List ℕ) (status : ℕ) (before : Shelf) (blank : Paper) (result : ℕ) (after : Shelf) (paper : Paper) (r : Result (Unit {0}) FileFault)
    → Writes name bytes before r after → r ≡ Err Failed → fault ≡ write_fault_text name → Says fault 3 blank result paper → LeavesFile name bytes text status before blank result after paper
unwritten name bytes fault text status before blank result after paper r w e f h =
    (w.others, inr (inl (w.failed e, subst (λ (t : List ℕ). Says t 3 blank result paper) f h)))

-- the ending's own file and text
pub finished : (e : Ending) (file : FileText) (name bytes text : List ℕ) (before : Shelf) (blank : Paper) (result : ℕ) (after : Shelf) (paper : Paper)
    → e.file ≡ Some file → name ≡ file.name → bytes ≡ file.bytes → text ≡ e.text → LeavesFile name bytes text e.status before blank result after paper → Leaves e before blank result after paper
finished e file name bytes text before blank result after paper is n b t h =
    inl (subst (λ (f : Option FileText). LeavesWith f e.text e.status before blank result after paper) (sym is)
    (subst (λ (m : List ℕ). LeavesFile m file.bytes e.text e.status before blank result after paper) n
    (subst (λ (c : List ℕ). LeavesFile name c e.text e.status before blank result after paper) b
    (subst (λ (s : List ℕ). LeavesFile name bytes s e.status before blank result after paper) t h))))
