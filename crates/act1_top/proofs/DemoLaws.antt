-- What the command `demo` owes, and what its statuses 0, 9, 10 and 11 say.
use Rattle.std.proofs.Common.{ℕ, ◌≡◌, ◌≢◌, ◌⊎◌, ◌<◌, ◌≤◌, ◌==◌, Bool, true, false, cond, IsTrue, List, [], ◌∷◌, length, Some, Contains, codes, inl, inr, refl, sym, ap, subst, ◌∙◌, arith}
use Rattle.act1_outside.specs.Outside.{Shelf}
use Rattle.act1_base.proofs.ListGets.{some_is}
use Rattle.act1_blif.specs.declared.blif.Blif.{Blif}
use Rattle.act1_blifread.specs.Text.{BlifText}
use Rattle.act1_demo.specs.Text.{demo_text}
use Rattle.act1_device.specs.declared.device.Device.{Device}
use Rattle.act1_devread.specs.Text.{DeviceText}
use Rattle.act1_flow.specs.Flow.{pads_needed, HasPads, IsStop}
use Rattle.act1_flow.specs.declared.answer.FlowStop.{FlowStop}
use Rattle.act1_flow.specs.declared.answer.FlowStop.TheVariants as stop
use Rattle.act1_fuses.specs.declared.fuses.FuseFile.{FuseFile}
use Rattle.act1_fuses.specs.Text.{fuse_text}
use Rattle.act1_frame.specs.declared.ending.Ending.{Ending}
use Rattle.act1_frame.specs.declared.ending.FileText.{FileText}
use Rattle.act1_frame.specs.Clauses.{HasReadFault}
use Rattle.act1_frame.specs.Endings.{with_text}
use Rattle.act1_frame.specs.Leaving.{Leaves, PrintsAll}
use Rattle.act1_frame.specs.Reading.{Found}
use Rattle.act1_frame.specs.World.{World}
use Rattle.act1_frame.proofs.Fine.{IsFine, content, done_content, text_fine, reads_fine, status_of_text, went_on}
use Rattle.act1_frame.proofs.One.{one_by}
use Rattle.act1_frame.proofs.Runs.{IsLawful, IsSaid, done_said, said_at, file_written, text_printed}
use Rattle.act1_frame.proofs.Stages.{reads_after}
use Rattle.act1_words.specs.declared.command.DemoWords.{DemoWords}
use Rattle.act1_top.specs.Files.{file_of, DeviceRefused}
use Rattle.act1_top.specs.DemoCommand.{demo_reads, demo_writes, demo_writes_at, demo_settings, no_helping, demo_done_text, demo_refuted_text, demo_spent_text, demo_ending, demo_stop_ending, DemoEnds, DemoNetEnds, DemoMayEnd, DemoReads, DemoIsDone, DemoIsVertical, DemoIsRefuted, DemoIsSpent}
use Rattle.act1_top.specs.FlowCommand.{needed_text, vertical_text, FlowIsChosen}
use Rattle.act1_top.specs.Laws.{TextsAreOne}
use Rattle.act1_top.proofs.FlowAnswers.{refutation, spending}
use Rattle.act1_top.proofs.FlowLaws.{Same, one_status, status_of, stop_status}
use Rattle.act1_top.proofs.Places.{first_of}
use Rattle.act1_top.proofs.TextsRead.{device_exact, device_fine, device_apart}

-- the status of a cause
stop_is : (why : FlowStop) (e : Ending) → e ≡ demo_stop_ending why → e.status ≡ stop_status why
stop_is (stop.Pads needed have) e is = status_of e (demo_stop_ending (stop.Pads needed have)) is
stop_is (stop.Full needed have) e is = status_of e (demo_stop_ending (stop.Full needed have)) is
stop_is (stop.Vertical source channel plan) e is = status_of e (demo_stop_ending (stop.Vertical source channel plan)) is
stop_is (stop.Refuted report connections tally) e is = status_of e (demo_stop_ending (stop.Refuted report connections tally)) is
stop_is (stop.Spent plan channel conflicts tracks connections tally) e is = status_of e (demo_stop_ending (stop.Spent plan channel conflicts tracks connections tally)) is
stop_is stop.Memory e is = status_of e (demo_stop_ending stop.Memory) is

module _ (Usage : Type 0) (words : DemoWords) (before after : Shelf) where
  abbrev Fine : Ending → Type 0
  Fine = IsFine Usage (demo_reads words) (demo_writes_at words) before after

  said_fine : (status : ℕ) (text : List ℕ) → 4 ≤ status → status ≢ 16 → Fine (with_text status text)
  said_fine status text low other = text_fine Usage (demo_reads words) (demo_writes_at words) before after status text (with_text status text) (content status low other) refl

  stop_fine : (dev : Device) (net : Blif) (why : FlowStop) → IsStop dev net demo_settings no_helping why → Fine (demo_stop_ending why)
  stop_fine dev net (stop.Pads needed have) h = said_fine 8 (needed_text (codes "pads") needed have) (omega arith) (λ n. absurd (omega (arith, n)))
  stop_fine dev net (stop.Full needed have) h = said_fine 8 (needed_text (codes "sites") needed have) (omega arith) (λ n. absurd (omega (arith, n)))
  stop_fine dev net (stop.Vertical source channel plan) h = said_fine 9 (vertical_text source channel plan) (omega arith) (λ n. absurd (omega (arith, n)))
  stop_fine dev net (stop.Refuted report connections tally) h = said_fine 10 (demo_refuted_text report connections) (omega arith) (λ n. absurd (omega (arith, n)))
  stop_fine dev net (stop.Spent plan channel conflicts tracks connections tally) h = said_fine 11 (demo_spent_text channel conflicts tracks connections plan) (omega arith) (λ n. absurd (omega (arith, n)))
  stop_fine dev net stop.Memory h = absurd h

  done_fine : (lines : List ℕ) (file : FuseFile) (modules : ℕ) → Fine (demo_ending words lines file modules)
  done_fine lines file modules = record {
    words = λ n. absurd (omega (arith, n));
    three = λ n. absurd (omega (arith, n));
    read = λ n. absurd (omega (arith, n));
    long = λ n. absurd (omega (arith, n));
    file = λ f h. subst (λ (g : FileText). Contains (words.fuses ∷ []) g.name) (some_is (record { name = words.fuses; bytes = fuse_text file }) f h) (first_of words.fuses []);
  }

  ends_fine : (dev : Device) (e : Ending) → DemoNetEnds words dev e → Fine e
  ends_fine dev e (net, text, inl (why, h, is)) = subst Fine (sym is) (stop_fine dev net why h)
  ends_fine dev e (net, text, inr (pads, file, modules, lines, realizes, shown, is)) = subst Fine (sym is) (done_fine lines file modules)

  fine : (e : Ending) → DemoMayEnd words before after e → Fine e
  fine =
      reads_fine Usage (demo_reads words) (demo_writes_at words) before after DeviceText DeviceRefused (file_of words.device) (DemoNetEnds words) (first_of (file_of words.device) [])
      (device_fine Usage (demo_reads words) (demo_writes_at words) before after) ends_fine

-- pads are too few, or the ending follows from the mapped circuit
module _ (words : DemoWords) (dev : Device) (net : Blif) where
  abbrev PadsOrChosen : Ending → Type 0
  PadsOrChosen e = ((length dev.pads < pads_needed net) × (e.status ≡ 8)) ⊎ (HasPads dev net × FlowIsChosen e)

  which_stop : (why : FlowStop) (e : Ending) → IsStop dev net demo_settings no_helping why → e ≡ demo_stop_ending why → PadsOrChosen e
  which_stop (stop.Pads needed have) e h is = let needed_is = h.0 in let have_is = h.1 in let less = h.2 in inl (omega arith, stop_is (stop.Pads needed have) e is)
  which_stop (stop.Full needed have) e h is = inr (h.0, inr (inr (inr (inr (needed, have, is)))))
  which_stop (stop.Vertical source channel plan) e h is = inr (h.0, inr (inl (stop_is (stop.Vertical source channel plan) e is)))
  which_stop (stop.Refuted report connections tally) e h is = inr (h.0, inr (inr (inl (stop_is (stop.Refuted report connections tally) e is))))
  which_stop (stop.Spent plan channel conflicts tracks connections tally) e h is = inr (h.0, inr (inr (inr (inl (stop_is (stop.Spent plan channel conflicts tracks connections tally) e is)))))
  which_stop stop.Memory e h is = absurd h

  which : (e : Ending) → DemoEnds words dev net e → PadsOrChosen e
  which e (inl (why, h, is)) = which_stop why e h is
  which e (inr (pads, file, modules, lines, realizes, shown, is)) = inr (pads, inl (status_of e (demo_ending words lines file modules) is))

  one_or_chosen : (e p : Ending) → PadsOrChosen e → PadsOrChosen p → Same e p
  one_or_chosen e p (inl h) (inl k) = inl (h.1 ∙ sym k.1)
  one_or_chosen e p (inl h) (inr k) = let less = h.0 in let fits = k.0 in absurd (omega arith)
  one_or_chosen e p (inr h) (inl k) = let less = k.0 in let fits = h.0 in absurd (omega arith)
  one_or_chosen e p (inr h) (inr k) = inr (h.1, k.1)

ends_one : TextsAreOne → (words : DemoWords) (dev : Device) (e p : Ending) → DemoNetEnds words dev e → DemoNetEnds words dev p → Same e p
ends_one laws words dev e p (net, text, h) (other, same, k) =
    let one = laws.one_netlist (demo_text words.bits) other net same text in
    one_or_chosen words dev net e p (which words dev net e h) (which words dev net p (subst (λ (b : Blif). DemoEnds words dev b p) one k))

pub demo_lawful : TextsAreOne → (Usage : Type 0) (words : DemoWords) → IsLawful Usage (demo_reads words) (demo_writes words) (demo_writes_at words) FlowIsChosen (DemoMayEnd words)
demo_lawful laws Usage words = record {
  fine = λ before after e h. fine Usage words before after e h;
  later = λ before mid after same. reads_after before mid after same DeviceText DeviceRefused (file_of words.device) (DemoNetEnds words) (DemoNetEnds words) (λ dev e k. k);
  one = λ before after told no_fault.
      one_by before after told (file_of words.device) (λ f. no_fault (file_of words.device, first_of (file_of words.device) [], f)) DeviceText DeviceRefused (device_exact laws) Same one_status (DemoNetEnds words) (λ dev d. ends_one laws words dev);
  named = λ status name h. named_by (status == 0) name h;
}
  where
    named_by : (done : Bool) (name : List ℕ) → Contains (cond done (words.fuses ∷ []) []) name → Contains (demo_writes words) name
    named_by true name h = h
    named_by false name h = absurd (omega (arith, h.1))

-- what was found where the command didn't stop at the device file
record IsBehind (words : DemoWords) (before : Shelf) (e : Ending) : Type 0 where
  dev : Device
  net : Blif
  device : Found DeviceText before (file_of words.device) dev
  netlist : BlifText (demo_text words.bits) net
  ends : DemoEnds words dev net e

behind : (words : DemoWords) (before after : Shelf) (status : ℕ) → status ≢ 2 → status ≢ 16 → status ≢ 5 → (e : Ending) → DemoMayEnd words before after e → e.status ≡ status → IsBehind words before e
behind words before after status two sixteen five e may is =
    let (dev, device, (net, text, ends)) = went_on DeviceText DeviceRefused before after (file_of words.device) (DemoNetEnds words) status two sixteen (device_apart status five) e may is in
    record { dev = dev; net = net; device = device; netlist = text; ends = ends }

module _ (words : DemoWords) (before : World) (result : ℕ) (after : World) (e : Ending) (leaves : Leaves e before.shelf before.paper result after.shelf after.paper) where
  abbrev Behind : Type 0
  Behind = IsBehind words before.shelf e

  read_of : (s : Behind) → DemoReads words before s.dev s.net
  read_of s = record { device_bytes = s.device.bytes; device_held = s.device.read.held; device_text = s.device.text; netlist = s.netlist }

  -- what an ending that writes nothing prints
  printed_text : (status : ℕ) → IsSaid status → (text : List ℕ) → e ≡ with_text status text → result ≡ status → PrintsAll text before.paper after.paper
  printed_text status said text is r =
      subst (λ (t : List ℕ). PrintsAll t before.paper after.paper) (ap (λ (p : Ending). p.text) is)
      (text_printed status said e before.shelf before.paper result after.shelf after.paper (ap (λ (p : Ending). p.file) is) leaves r)

  done_by : (s : Behind) → DemoEnds words s.dev s.net e → e.status ≡ 0 → result ≡ 0 → DemoIsDone words before after
  done_by s (inl (why, h, is)) nought r = absurd (not_done why h (sym (stop_is why e is) ∙ nought))
    where
      not_done : (why : FlowStop) → IsStop s.dev s.net demo_settings no_helping why → stop_status why ≡ 0 → ⊥
      not_done (stop.Pads needed have) h n = absurd (omega (arith, n))
      not_done (stop.Full needed have) h n = absurd (omega (arith, n))
      not_done (stop.Vertical source channel plan) h n = absurd (omega (arith, n))
      not_done (stop.Refuted report connections tally) h n = absurd (omega (arith, n))
      not_done (stop.Spent plan channel conflicts tracks connections tally) h n = absurd (omega (arith, n))
      not_done stop.Memory h n = absurd h
  done_by s (inr (pads, file, modules, lines, realizes, shown, is)) nought r =
      let text = file_written 0 done_said e (record { name = words.fuses; bytes = fuse_text file }) before.shelf before.paper result after.shelf after.paper (ap (λ (p : Ending). p.file) is) leaves r in
      record {
        dev = s.dev;
        net = s.net;
        file = file;
        modules = modules;
        lines = lines;
        read = read_of s;
        written = text.holds;
        realizes = realizes;
        shown = shown;
        printed = subst (λ (t : List ℕ). PrintsAll t before.paper after.paper) (ap (λ (p : Ending). p.text) is) text.printed;
      }

  vertical_by : (s : Behind) → DemoEnds words s.dev s.net e → e.status ≡ 9 → result ≡ 9 → DemoIsVertical words before after
  vertical_by s (inr (pads, file, modules, lines, realizes, shown, is)) nine r = let nought = status_of e (demo_ending words lines file modules) is in absurd (omega (arith, nine))
  vertical_by s (inl (why, h, is)) nine r = by why h is (sym (stop_is why e is) ∙ nine)
    where
      by : (why : FlowStop) → IsStop s.dev s.net demo_settings no_helping why → e ≡ demo_stop_ending why → stop_status why ≡ 9 → DemoIsVertical words before after
      by (stop.Pads needed have) h is n = absurd (omega (arith, n))
      by (stop.Full needed have) h is n = absurd (omega (arith, n))
      by (stop.Vertical source channel plan) h is n =
          record { dev = s.dev; net = s.net; plan = plan; source = source; channel = channel; read = read_of s; is = h.1; printed = printed_text 9 (said_at 9 (λ n. absurd (omega (arith, n))) (λ n. absurd (omega (arith, n)))) (vertical_text source channel plan) is r }
      by (stop.Refuted report connections tally) h is n = absurd (omega (arith, n))
      by (stop.Spent plan channel conflicts tracks connections tally) h is n = absurd (omega (arith, n))
      by stop.Memory h is n = absurd h

  module _ (laws : TextsAreOne) where
    refuted_by : (s : Behind) → DemoEnds words s.dev s.net e → e.status ≡ 10 → result ≡ 10 → DemoIsRefuted words before after
    refuted_by s (inr (pads, file, modules, lines, realizes, shown, is)) ten r = let nought = status_of e (demo_ending words lines file modules) is in absurd (omega (arith, ten))
    refuted_by s (inl (why, h, is)) ten r = by why h is (sym (stop_is why e is) ∙ ten)
      where
        by : (why : FlowStop) → IsStop s.dev s.net demo_settings no_helping why → e ≡ demo_stop_ending why → stop_status why ≡ 10 → DemoIsRefuted words before after
        by (stop.Pads needed have) h is n = absurd (omega (arith, n))
        by (stop.Full needed have) h is n = absurd (omega (arith, n))
        by (stop.Vertical source channel plan) h is n = absurd (omega (arith, n))
        by (stop.Refuted report connections tally) (pads, problem, first, count, checked) is n = record {
          dev = s.dev;
          net = s.net;
          report = report;
          problem = problem;
          read = read_of s;
          tally = tally;
          refuted = refutation laws s.dev s.net demo_settings no_helping report problem tally first checked;
          printed = subst (λ (m : ℕ). PrintsAll (demo_refuted_text report m) before.paper after.paper) count
              (printed_text 10 (said_at 10 (λ n. absurd (omega (arith, n))) (λ n. absurd (omega (arith, n)))) (demo_refuted_text report connections) is r);
        }
        by (stop.Spent plan channel conflicts tracks connections tally) h is n = absurd (omega (arith, n))
        by stop.Memory h is n = absurd h

    spent_by : (s : Behind) → DemoEnds words s.dev s.net e → e.status ≡ 11 → result ≡ 11 → DemoIsSpent words before after
    spent_by s (inr (pads, file, modules, lines, realizes, shown, is)) eleven r = let nought = status_of e (demo_ending words lines file modules) is in absurd (omega (arith, eleven))
    spent_by s (inl (why, h, is)) eleven r = by why h is (sym (stop_is why e is) ∙ eleven)
      where
        by : (why : FlowStop) → IsStop s.dev s.net demo_settings no_helping why → e ≡ demo_stop_ending why → stop_status why ≡ 11 → DemoIsSpent words before after
        by (stop.Pads needed have) h is n = absurd (omega (arith, n))
        by (stop.Full needed have) h is n = absurd (omega (arith, n))
        by (stop.Vertical source channel plan) h is n = absurd (omega (arith, n))
        by (stop.Refuted report connections tally) h is n = absurd (omega (arith, n))
        by (stop.Spent plan channel conflicts tracks connections tally) (pads, problem, first, tracks_is, count) is n =
            let text = printed_text 11 (said_at 11 (λ n. absurd (omega (arith, n))) (λ n. absurd (omega (arith, n)))) (demo_spent_text channel conflicts tracks connections plan) is r in
            record {
              dev = s.dev;
              net = s.net;
              plan = plan;
              channel = channel;
              problem = problem;
              read = read_of s;
              tally = tally;
              spent = spending laws s.dev s.net demo_settings no_helping plan channel conflicts problem tally first;
              printed = subst (λ (m : ℕ). PrintsAll (demo_spent_text channel demo_settings.budget (length problem.tracks) m plan) before.paper after.paper) count
                  (subst (λ (m : ℕ). PrintsAll (demo_spent_text channel demo_settings.budget m connections plan) before.paper after.paper) tracks_is
                  (subst (λ (m : ℕ). PrintsAll (demo_spent_text channel m tracks connections plan) before.paper after.paper) first.is.1.0 text));
            }
        by stop.Memory h is n = absurd h

    pub demo_refuted : DemoMayEnd words before.shelf after.shelf e → e.status ≡ 10 → result ≡ 10 → DemoIsRefuted words before after
    demo_refuted may ten r =
        let s = behind words before.shelf after.shelf 10 (λ n. absurd (omega (arith, n))) (λ n. absurd (omega (arith, n))) (λ n. absurd (omega (arith, n))) e may ten in
        refuted_by s s.ends ten r

    pub demo_spent : DemoMayEnd words before.shelf after.shelf e → e.status ≡ 11 → result ≡ 11 → DemoIsSpent words before after
    demo_spent may eleven r =
        let s = behind words before.shelf after.shelf 11 (λ n. absurd (omega (arith, n))) (λ n. absurd (omega (arith, n))) (λ n. absurd (omega (arith, n))) e may eleven in
        spent_by s s.ends eleven r

  pub demo_done : DemoMayEnd words before.shelf after.shelf e → e.status ≡ 0 → result ≡ 0 → DemoIsDone words before after
  demo_done may nought r =
      let s = behind words before.shelf after.shelf 0 (λ n. absurd (omega (arith, n))) (λ n. absurd (omega (arith, n))) (λ n. absurd (omega (arith, n))) e may nought in
      done_by s s.ends nought r

  pub demo_vertical : DemoMayEnd words before.shelf after.shelf e → e.status ≡ 9 → result ≡ 9 → DemoIsVertical words before after
  demo_vertical may nine r =
      let s = behind words before.shelf after.shelf 9 (λ n. absurd (omega (arith, n))) (λ n. absurd (omega (arith, n))) (λ n. absurd (omega (arith, n))) e may nine in
      vertical_by s s.ends nine r
