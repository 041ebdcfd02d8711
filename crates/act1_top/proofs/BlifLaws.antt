-- What the command `blif` owes, and what its status 0 says.
use Rattle.std.proofs.Common.{inl, ℕ, ◌≡◌, ◌≤◌, List, [], refl, sym, ap, subst, ◌∙◌, arith}
use Rattle.act1_outside.specs.Outside.{Shelf}
use Rattle.act1_blif.specs.Text.{blif_text}
use Rattle.act1_blifread.specs.Text.{BlifText}
use Rattle.act1_frame.specs.declared.ending.Ending.{Ending}
use Rattle.act1_frame.specs.Leaving.{Leaves, PrintsAll}
use Rattle.act1_frame.specs.World.{World}
use Rattle.act1_frame.proofs.Fine.{done_content, text_fine, reads_fine, status_of_text, went_on}
use Rattle.act1_frame.proofs.One.{one_of}
use Rattle.act1_frame.proofs.Runs.{IsLawful, done_said, text_printed}
use Rattle.act1_frame.proofs.Stages.{reads_after}
use Rattle.act1_words.specs.declared.command.BlifWords.{BlifWords}
use Rattle.act1_top.specs.BlifCommand.{blif_reads, BlifEnds, BlifMayEnd, BlifIsDone}
use Rattle.act1_top.specs.Files.{file_of, NetlistRefused}
use Rattle.act1_top.specs.Laws.{TextsAreOne}
use Rattle.act1_top.proofs.Places.{first_of}
use Rattle.act1_top.proofs.TextsRead.{netlist_exact, netlist_fine, netlist_apart}

-- it writes no file
abbrev no_writes : ℕ → List (List ℕ)
no_writes status = []

pub blif_lawful : TextsAreOne → (Usage : Type 0) (words : BlifWords) → IsLawful Usage (blif_reads words) [] no_writes (λ e. ⊥) (BlifMayEnd words)
blif_lawful laws Usage words = record {
  fine = λ before after.
      reads_fine Usage (blif_reads words) no_writes before after BlifText NetlistRefused (file_of words.blif) BlifEnds (first_of (file_of words.blif) [])
      (netlist_fine Usage (blif_reads words) no_writes before after) (λ net e is. text_fine Usage (blif_reads words) no_writes before after 0 (blif_text net) e done_content is);
  later = λ before mid after same. reads_after before mid after same BlifText NetlistRefused (file_of words.blif) BlifEnds BlifEnds (λ net e k. k);
  one = λ before after told no_fault e p h k. inl (
      one_of before after told (file_of words.blif) (λ f. no_fault (file_of words.blif, first_of (file_of words.blif) [], f)) BlifText NetlistRefused (netlist_exact laws) BlifEnds
      (λ net n e p h k. status_of_text 0 (blif_text net) e h ∙ sym (status_of_text 0 (blif_text net) p k)) e p h k);
  named = λ status name h. h;
}

pub blif_done : (words : BlifWords) (before : World) (result : ℕ) (after : World) (e : Ending) → BlifMayEnd words before.shelf after.shelf e
    → Leaves e before.shelf before.paper result after.shelf after.paper → e.status ≡ 0 → result ≡ 0 → BlifIsDone words before after
blif_done words before result after e may leaves zero r =
    let n = went_on BlifText NetlistRefused before.shelf after.shelf (file_of words.blif) BlifEnds 0 (λ n. absurd (omega (arith, n))) (λ n. absurd (omega (arith, n))) (netlist_apart 0 (λ n. absurd (omega (arith, n)))) e may zero in
    record {
      bytes = n.1.bytes;
      net = n.0;
      held = n.1.read.held;
      text = n.1.text;
      printed = subst (λ (t : List ℕ). PrintsAll t before.paper after.paper) (ap (λ (p : Ending). p.text) n.2)
          (text_printed 0 done_said e before.shelf before.paper result after.shelf after.paper (ap (λ (p : Ending). p.file) n.2) leaves r);
    }

-- it never has an answer of routes or of a search
pub blif_never : (words : BlifWords) (before after : Shelf) (e : Ending) → BlifMayEnd words before after e → 9 ≤ e.status → e.status ≤ 11 → ⊥
blif_never words before after e may low high =
    let n = went_on BlifText NetlistRefused before after (file_of words.blif) BlifEnds e.status (λ n. absurd (omega (arith, low, n))) (λ n. absurd (omega (arith, high, n)))
    (netlist_apart e.status (λ n. absurd (omega (arith, low, n)))) e may refl in
    let zero = status_of_text 0 (blif_text n.0) e n.2 in
    absurd (omega (arith, low, zero))
