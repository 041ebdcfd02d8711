-- What the command `flow` owes, and what its statuses 0, 9, 10 and 11 say.
use Rattle.std.proofs.Common.{ℕ, zero, suc, get_or, ◌≡◌, ◌≢◌, ◌⊎◌, ◌+◌, ◌<◌, ◌≤◌, ◌==◌, Bool, true, false, cond, IsTrue, List, [], ◌∷◌, length, Some, Contains, codes, inl, inr, refl, sym, ap, subst, ◌∙◌, arith}
use Rattle.act1_outside.specs.Outside.{Shelf}
use Rattle.act1_base.proofs.ListGets.{some_is}
use Rattle.act1_device.specs.declared.device.Device.{Device}
use Rattle.act1_devread.specs.Text.{DeviceText}
use Rattle.act1_blif.specs.declared.blif.Blif.{Blif}
use Rattle.act1_blifread.specs.Text.{BlifText}
use Rattle.act1_channel.specs.declared.problem.Problem.{Problem}
use Rattle.act1_plan.specs.declared.plan.Plan.{Plan}
use Rattle.act1_report.specs.declared.report.Report.{Report}
use Rattle.act1_report.specs.Texts.{report_text}
use Rattle.act1_farm.specs.declared.outcome.Tally.{Tally}
use Rattle.act1_flow.specs.Flow.{HasPads, IsRoutedFor, IsStop, pads_needed}
use Rattle.act1_flow.specs.Helping.{Helping}
use Rattle.act1_flow.specs.declared.answer.FlowStop.{FlowStop}
use Rattle.act1_flow.specs.declared.answer.FlowStop.TheVariants as stop
use Rattle.act1_flow.specs.declared.answer.Routed.{Routed}
use Rattle.act1_fuses.specs.declared.fuses.FuseFile.{FuseFile}
use Rattle.act1_fuses.specs.Text.{fuse_text}
use Rattle.act1_frame.specs.declared.ending.Ending.{Ending}
use Rattle.act1_frame.specs.declared.ending.FileText.{FileText}
use Rattle.act1_frame.specs.Clauses.{HasReadFault}
use Rattle.act1_frame.specs.Endings.{with_text}
use Rattle.act1_frame.specs.Leaving.{Leaves, PrintsAll}
use Rattle.act1_frame.specs.Reading.{Found}
use Rattle.act1_frame.specs.Stages.{Reads}
use Rattle.act1_frame.specs.World.{World}
use Rattle.act1_frame.proofs.Fine.{IsFine, IsOfContent, content, done_content, text_fine, reads_fine, status_of_text, went_on}
use Rattle.act1_frame.proofs.One.{one_by}
use Rattle.act1_frame.proofs.Runs.{IsLawful, IsSaid, done_said, said_at, file_written, text_printed}
use Rattle.act1_frame.proofs.Stages.{reads_after}
use Rattle.act1_words.specs.declared.command.FlowWords.{FlowWords}
use Rattle.act1_top.specs.Files.{file_of, DeviceRefused, NetlistRefused}
use Rattle.act1_top.specs.FlowCommand.{flow_reads, flow_writes, flow_writes_at, settings_of, done_text, needed_text, refuted_text, spent_text, vertical_text, routed_ending, refuted_ending, stop_ending, helping_in, FlowEnds, FlowMayEnd, FlowIsChosen, FlowReads, FlowIsDone, FlowIsVertical, FlowIsRefuted, FlowIsSpent}
use Rattle.act1_top.specs.Laws.{TextsAreOne}
use Rattle.act1_top.proofs.FlowAnswers.{refutation, spending}
use Rattle.act1_top.proofs.Places.{first_of, second_of}
use Rattle.act1_top.proofs.TextsRead.{device_exact, netlist_exact, device_fine, netlist_fine, device_apart, netlist_apart}

-- the stages behind the device file
abbrev pub Rest : FlowWords → Helping → Shelf → Shelf → Device → Ending → Type 0
Rest words helping before after dev = Reads BlifText NetlistRefused before after (file_of words.blif) (FlowEnds words helping dev)

-- the status of an ending
pub status_of : (e p : Ending) → e ≡ p → e.status ≡ p.status
status_of e p h = ap (λ (x : Ending). x.status) h

-- an ending that writes this one file at such a status
module _ (Usage : Type 0) (words : FlowWords) (helping : Helping) (before after : Shelf) where
  abbrev Fine : Ending → Type 0
  Fine = IsFine Usage (flow_reads words) (flow_writes_at words) before after

  file_fine : (status : ℕ) (text : List ℕ) (file : FileText) → IsOfContent status → Contains (flow_writes_at words status) file.name → Fine (record { status = status; text = text; file = Some file })
  file_fine status text file of there = record {
    words = λ n. absurd (of.one n);
    three = of.three;
    read = λ n. absurd (of.two n);
    long = λ n. absurd (of.sixteen n);
    file = λ f h. subst (λ (g : FileText). Contains (flow_writes_at words status) g.name) (some_is file f h) there;
  }

  said_fine : (status : ℕ) (text : List ℕ) → 4 ≤ status → status ≢ 16 → Fine (with_text status text)
  said_fine status text low other = text_fine Usage (flow_reads words) (flow_writes_at words) before after status text (with_text status text) (content status low other) refl

  stop_fine : (dev : Device) (net : Blif) (why : FlowStop) → IsStop dev net (settings_of words) helping why → Fine (stop_ending words.report why)
  stop_fine dev net (stop.Pads needed have) h = said_fine 8 (needed_text (codes "pads") needed have) (omega arith) (λ n. absurd (omega (arith, n)))
  stop_fine dev net (stop.Full needed have) h = said_fine 8 (needed_text (codes "sites") needed have) (omega arith) (λ n. absurd (omega (arith, n)))
  stop_fine dev net (stop.Vertical source channel plan) h = said_fine 9 (vertical_text source channel plan) (omega arith) (λ n. absurd (omega (arith, n)))
  stop_fine dev net (stop.Refuted report connections tally) h =
      file_fine 10 (refuted_text report.channel connections (length report.log.steps) tally) (record { name = words.report; bytes = report_text report }) (content 10 (omega arith) (λ n. absurd (omega (arith, n)))) (first_of words.report [])
  stop_fine dev net (stop.Spent plan channel conflicts tracks connections tally) h = said_fine 11 (spent_text channel conflicts tracks connections plan tally) (omega arith) (λ n. absurd (omega (arith, n)))
  stop_fine dev net stop.Memory h = absurd h

  ends_fine : (dev : Device) (net : Blif) (e : Ending) → FlowEnds words helping dev net e → Fine e
  ends_fine dev net e (inl (why, h, is)) = subst Fine (sym is) (stop_fine dev net why h)
  ends_fine dev net e (inr (routed, is_routed, is)) =
      subst Fine (sym is) (file_fine 0 (done_text routed.modules (length routed.fuses.sites) routed.tally) (record { name = words.fuses; bytes = fuse_text routed.fuses }) done_content (first_of words.fuses []))

  fine : (e : Ending) → FlowMayEnd words helping before after e → Fine e
  fine =
      reads_fine Usage (flow_reads words) (flow_writes_at words) before after DeviceText DeviceRefused (file_of words.device) (Rest words helping before after) (first_of (file_of words.device) (file_of words.blif ∷ []))
      (device_fine Usage (flow_reads words) (flow_writes_at words) before after) (λ dev.
      reads_fine Usage (flow_reads words) (flow_writes_at words) before after BlifText NetlistRefused (file_of words.blif) (FlowEnds words helping dev) (second_of (file_of words.device) (file_of words.blif) [])
      (netlist_fine Usage (flow_reads words) (flow_writes_at words) before after) (ends_fine dev))

-- pads are too few, or the ending follows from the mapped circuit
module _ (words : FlowWords) (helping : Helping) (dev : Device) (net : Blif) where
  abbrev PadsOrChosen : Ending → Type 0
  PadsOrChosen e = ((length dev.pads < pads_needed net) × (e.status ≡ 8)) ⊎ (HasPads dev net × FlowIsChosen e)

  which_stop : (why : FlowStop) (e : Ending) → IsStop dev net (settings_of words) helping why → e ≡ stop_ending words.report why → PadsOrChosen e
  which_stop (stop.Pads needed have) e h is = let needed_is = h.0 in let have_is = h.1 in let less = h.2 in inl (omega arith, status_of e (stop_ending words.report (stop.Pads needed have)) is)
  which_stop (stop.Full needed have) e h is = inr (h.0, inr (inr (inr (inr (needed, have, is)))))
  which_stop (stop.Vertical source channel plan) e h is = inr (h.0, inr (inl (status_of e (stop_ending words.report (stop.Vertical source channel plan)) is)))
  which_stop (stop.Refuted report connections tally) e h is = inr (h.0, inr (inr (inl (status_of e (stop_ending words.report (stop.Refuted report connections tally)) is))))
  which_stop (stop.Spent plan channel conflicts tracks connections tally) e h is = inr (h.0, inr (inr (inr (inl (status_of e (stop_ending words.report (stop.Spent plan channel conflicts tracks connections tally)) is)))))
  which_stop stop.Memory e h is = absurd h

  which : (e : Ending) → FlowEnds words helping dev net e → PadsOrChosen e
  which e (inl (why, h, is)) = which_stop why e h is
  which e (inr (routed, is_routed, is)) = inr (is_routed.pads, inl (status_of e (routed_ending words.fuses routed.fuses routed.modules routed.tally) is))

  one_or_chosen : (e p : Ending) → PadsOrChosen e → PadsOrChosen p → (e.status ≡ p.status) ⊎ (FlowIsChosen e × FlowIsChosen p)
  one_or_chosen e p (inl h) (inl k) = inl (h.1 ∙ sym k.1)
  one_or_chosen e p (inl h) (inr k) = let less = h.0 in let fits = k.0 in absurd (omega arith)
  one_or_chosen e p (inr h) (inl k) = let less = k.0 in let fits = h.0 in absurd (omega arith)
  one_or_chosen e p (inr h) (inr k) = inr (h.1, k.1)

  ends_one : (e p : Ending) → FlowEnds words helping dev net e → FlowEnds words helping dev net p → (e.status ≡ p.status) ⊎ (FlowIsChosen e × FlowIsChosen p)
  ends_one e p h k = one_or_chosen e p (which e h) (which p k)

may_after : (words : FlowWords) (helping : Helping) (before mid after : Shelf) → ((n : List ℕ) → after.read_faults n ≡ mid.read_faults n) → (e : Ending) → FlowMayEnd words helping before mid e → FlowMayEnd words helping before after e
may_after words helping before mid after same =
    reads_after before mid after same DeviceText DeviceRefused (file_of words.device) (Rest words helping before mid) (Rest words helping before after)
    (λ dev. reads_after before mid after same BlifText NetlistRefused (file_of words.blif) (FlowEnds words helping dev) (FlowEnds words helping dev) (λ net e k. k))

-- endings of one status, or two between which the flow may choose
abbrev pub Same : Ending → Ending → Type 0
Same e p = (e.status ≡ p.status) ⊎ (FlowIsChosen e × FlowIsChosen p)

pub one_status : (e p : Ending) → e.status ≡ p.status → Same e p
one_status e p h = inl h

may_one : TextsAreOne → (words : FlowWords) (helping : Helping) (before after : Shelf) → IsTrue before.tells → (HasReadFault (flow_reads words) before after → ⊥) → (e p : Ending) → FlowMayEnd words helping before after e → FlowMayEnd words helping before after p → Same e p
may_one laws words helping before after told no_fault =
    one_by before after told (file_of words.device) (λ f. no_fault (file_of words.device, first_of (file_of words.device) (file_of words.blif ∷ []), f)) DeviceText DeviceRefused (device_exact laws) Same one_status (Rest words helping before after) (λ dev d.
    one_by before after told (file_of words.blif) (λ f. no_fault (file_of words.blif, second_of (file_of words.device) (file_of words.blif) [], f)) BlifText NetlistRefused (netlist_exact laws) Same one_status (FlowEnds words helping dev) (λ net n.
    ends_one words helping dev net))

pub flow_lawful : TextsAreOne → (Usage : Type 0) (words : FlowWords) (helping : Helping) → IsLawful Usage (flow_reads words) (flow_writes words) (flow_writes_at words) FlowIsChosen (FlowMayEnd words helping)
flow_lawful laws Usage words helping = record {
  fine = λ before after e h. fine Usage words helping before after e h;
  later = λ before mid after same e h. may_after words helping before mid after same e h;
  one = λ before after told no_fault e p h k. may_one laws words helping before after told no_fault e p h k;
  named = λ status name h. named_by (status == 0) (status == 10) name h;
}
  where
    report_named : (name : List ℕ) → Contains (words.report ∷ []) name → Contains (flow_writes words) name
    report_named name h = (suc h.0, omega (arith, h.1), h.2)

    fuses_named : (k : ℕ) (name : List ℕ) → k < 1 → get_or (words.fuses ∷ []) k name ≡ name → Contains (flow_writes words) name
    fuses_named zero name low e = (0, omega arith, e)
    fuses_named (suc k) name low e = absurd (omega (arith, low))

    named_by : (none ten : Bool) (name : List ℕ) → Contains (cond none (words.fuses ∷ []) (cond ten (words.report ∷ []) [])) name → Contains (flow_writes words) name
    named_by true ten name h = fuses_named h.0 name h.1 h.2
    named_by false true name h = report_named name h
    named_by false false name h = absurd (omega (arith, h.1))

-- what was found where the command didn't stop at a file
record IsBehind (words : FlowWords) (helping : Helping) (before after : Shelf) (e : Ending) : Type 0 where
  dev : Device
  net : Blif
  device : Found DeviceText before (file_of words.device) dev
  netlist : Found BlifText before (file_of words.blif) net
  ends : FlowEnds words helping dev net e

behind : (words : FlowWords) (helping : Helping) (before after : Shelf) (status : ℕ) → status ≢ 2 → status ≢ 16 → status ≢ 5 → status ≢ 4 → (e : Ending) → FlowMayEnd words helping before after e → e.status ≡ status → IsBehind words helping before after e
behind words helping before after status two sixteen five four e may is =
    let d = went_on DeviceText DeviceRefused before after (file_of words.device) (Rest words helping before after) status two sixteen (device_apart status five) e may is in
    let n = went_on BlifText NetlistRefused before after (file_of words.blif) (FlowEnds words helping d.0) status two sixteen (netlist_apart status four) e d.2 is in
    record { dev = d.0; net = n.0; device = d.1; netlist = n.1; ends = n.2 }

-- the statuses of stops
abbrev pub stop_status : FlowStop → ℕ
stop_status (stop.Pads needed have) = 8
stop_status (stop.Full needed have) = 8
stop_status (stop.Vertical source channel plan) = 9
stop_status (stop.Refuted report connections tally) = 10
stop_status (stop.Spent plan channel conflicts tracks connections tally) = 11
stop_status stop.Memory = 15

pub status_is : (name : List ℕ) (why : FlowStop) (e : Ending) → e ≡ stop_ending name why → e.status ≡ stop_status why
status_is name (stop.Pads needed have) e is = status_of e (stop_ending name (stop.Pads needed have)) is
status_is name (stop.Full needed have) e is = status_of e (stop_ending name (stop.Full needed have)) is
status_is name (stop.Vertical source channel plan) e is = status_of e (stop_ending name (stop.Vertical source channel plan)) is
status_is name (stop.Refuted report connections tally) e is = status_of e (stop_ending name (stop.Refuted report connections tally)) is
status_is name (stop.Spent plan channel conflicts tracks connections tally) e is = status_of e (stop_ending name (stop.Spent plan channel conflicts tracks connections tally)) is
status_is name stop.Memory e is = status_of e (stop_ending name stop.Memory) is

module _ (words : FlowWords) (before : World) (result : ℕ) (after : World) (e : Ending) (leaves : Leaves e before.shelf before.paper result after.shelf after.paper) where
  abbrev helping : Helping
  helping = helping_in words before.bench after.bench

  abbrev Behind : Type 0
  Behind = IsBehind words helping before.shelf after.shelf e

  read_of : (s : Behind) → FlowReads words before s.dev s.net
  read_of s = record { device_bytes = s.device.bytes; blif_bytes = s.netlist.bytes; device_held = s.device.read.held; device_text = s.device.text; blif_held = s.netlist.read.held; blif_text = s.netlist.text }

  -- what an ending that writes nothing prints
  printed_text : (status : ℕ) → IsSaid status → (text : List ℕ) (n : ℕ) → e ≡ with_text n text → result ≡ status → PrintsAll text before.paper after.paper
  printed_text status said text n is r =
      subst (λ (t : List ℕ). PrintsAll t before.paper after.paper) (ap (λ (p : Ending). p.text) is)
      (text_printed status said e before.shelf before.paper result after.shelf after.paper (ap (λ (p : Ending). p.file) is) leaves r)

  done_by : (s : Behind) → FlowEnds words helping s.dev s.net e → e.status ≡ 0 → result ≡ 0 → FlowIsDone words before after
  done_by s (inl (why, h, is)) nought r = absurd (not_done why h (sym (status_is words.report why e is) ∙ nought))
    where
      not_done : (why : FlowStop) → IsStop s.dev s.net (settings_of words) helping why → stop_status why ≡ 0 → ⊥
      not_done (stop.Pads needed have) h n = absurd (omega (arith, n))
      not_done (stop.Full needed have) h n = absurd (omega (arith, n))
      not_done (stop.Vertical source channel plan) h n = absurd (omega (arith, n))
      not_done (stop.Refuted report connections tally) h n = absurd (omega (arith, n))
      not_done (stop.Spent plan channel conflicts tracks connections tally) h n = absurd (omega (arith, n))
      not_done stop.Memory h n = absurd h
  done_by s (inr (routed, is_routed, is)) nought r =
      let realizes = is_routed.realizes in
      let text = file_written 0 done_said e (record { name = words.fuses; bytes = fuse_text routed.fuses }) before.shelf before.paper result after.shelf after.paper (ap (λ (p : Ending). p.file) is) leaves r in
      record {
        dev = s.dev;
        net = s.net;
        file = routed.fuses;
        array = realizes.array;
        read = read_of s;
        written = text.holds;
        keeps = realizes.keeps;
        sound = realizes.sound;
        is = realizes.is;
        means = realizes.plan.means;
        plan = realizes.plan;
        emission = realizes.emission;
        tally = routed.tally;
        helped = is_routed.helped;
        printed = subst (λ (m : ℕ). PrintsAll (done_text m (length routed.fuses.sites) routed.tally) before.paper after.paper) realizes.count
            (subst (λ (t : List ℕ). PrintsAll t before.paper after.paper) (ap (λ (p : Ending). p.text) is) text.printed);
      }

  vertical_by : (s : Behind) → FlowEnds words helping s.dev s.net e → e.status ≡ 9 → result ≡ 9 → FlowIsVertical words before after
  vertical_by s (inr (routed, is_routed, is)) nine r = let nought = status_of e (routed_ending words.fuses routed.fuses routed.modules routed.tally) is in absurd (omega (arith, nine))
  vertical_by s (inl (why, h, is)) nine r = by why h is (sym (status_is words.report why e is) ∙ nine)
    where
      by : (why : FlowStop) → IsStop s.dev s.net (settings_of words) helping why → e ≡ stop_ending words.report why → stop_status why ≡ 9 → FlowIsVertical words before after
      by (stop.Pads needed have) h is n = absurd (omega (arith, n))
      by (stop.Full needed have) h is n = absurd (omega (arith, n))
      by (stop.Vertical source channel plan) h is n =
          record { dev = s.dev; net = s.net; plan = plan; source = source; channel = channel; read = read_of s; is = h.1; printed = printed_text 9 (said_at 9 (λ n. absurd (omega (arith, n))) (λ n. absurd (omega (arith, n)))) (vertical_text source channel plan) 9 is r }
      by (stop.Refuted report connections tally) h is n = absurd (omega (arith, n))
      by (stop.Spent plan channel conflicts tracks connections tally) h is n = absurd (omega (arith, n))
      by stop.Memory h is n = absurd h

  module _ (laws : TextsAreOne) where
    refuted_by : (s : Behind) → FlowEnds words helping s.dev s.net e → e.status ≡ 10 → result ≡ 10 → FlowIsRefuted words before after
    refuted_by s (inr (routed, is_routed, is)) ten r = let nought = status_of e (routed_ending words.fuses routed.fuses routed.modules routed.tally) is in absurd (omega (arith, ten))
    refuted_by s (inl (why, h, is)) ten r = by why h is (sym (status_is words.report why e is) ∙ ten)
      where
        by : (why : FlowStop) → IsStop s.dev s.net (settings_of words) helping why → e ≡ stop_ending words.report why → stop_status why ≡ 10 → FlowIsRefuted words before after
        by (stop.Pads needed have) h is n = absurd (omega (arith, n))
        by (stop.Full needed have) h is n = absurd (omega (arith, n))
        by (stop.Vertical source channel plan) h is n = absurd (omega (arith, n))
        by (stop.Refuted report connections tally) (pads, problem, first, count, checked) is n =
            let w = file_written 10 (said_at 10 (λ n. absurd (omega (arith, n))) (λ n. absurd (omega (arith, n)))) e (record { name = words.report; bytes = report_text report }) before.shelf before.paper result after.shelf after.paper (ap (λ (p : Ending). p.file) is) leaves r in
            record {
              dev = s.dev;
              net = s.net;
              report = report;
              problem = problem;
              read = read_of s;
              written = w.holds;
              tally = tally;
              refuted = refutation laws s.dev s.net (settings_of words) helping report problem tally first checked;
              printed = subst (λ (m : ℕ). PrintsAll (refuted_text report.channel m (length report.log.steps) tally) before.paper after.paper) count
                  (subst (λ (t : List ℕ). PrintsAll t before.paper after.paper) (ap (λ (p : Ending). p.text) is) w.printed);
            }
        by (stop.Spent plan channel conflicts tracks connections tally) h is n = absurd (omega (arith, n))
        by stop.Memory h is n = absurd h

    spent_by : (s : Behind) → FlowEnds words helping s.dev s.net e → e.status ≡ 11 → result ≡ 11 → FlowIsSpent words before after
    spent_by s (inr (routed, is_routed, is)) eleven r = let nought = status_of e (routed_ending words.fuses routed.fuses routed.modules routed.tally) is in absurd (omega (arith, eleven))
    spent_by s (inl (why, h, is)) eleven r = by why h is (sym (status_is words.report why e is) ∙ eleven)
      where
        by : (why : FlowStop) → IsStop s.dev s.net (settings_of words) helping why → e ≡ stop_ending words.report why → stop_status why ≡ 11 → FlowIsSpent words before after
        by (stop.Pads needed have) h is n = absurd (omega (arith, n))
        by (stop.Full needed have) h is n = absurd (omega (arith, n))
        by (stop.Vertical source channel plan) h is n = absurd (omega (arith, n))
        by (stop.Refuted report connections tally) h is n = absurd (omega (arith, n))
        by (stop.Spent plan channel conflicts tracks connections tally) (pads, problem, first, tracks_is, count) is n =
            let text = printed_text 11 (said_at 11 (λ n. absurd (omega (arith, n))) (λ n. absurd (omega (arith, n)))) (spent_text channel conflicts tracks connections plan tally) 11 is r in
            record {
              dev = s.dev;
              net = s.net;
              plan = plan;
              channel = channel;
              problem = problem;
              read = read_of s;
              tally = tally;
              spent = spending laws s.dev s.net (settings_of words) helping plan channel conflicts problem tally first;
              printed = subst (λ (m : ℕ). PrintsAll (spent_text channel words.budget (length problem.tracks) m plan tally) before.paper after.paper) count
                  (subst (λ (m : ℕ). PrintsAll (spent_text channel words.budget m connections plan tally) before.paper after.paper) tracks_is
                  (subst (λ (m : ℕ). PrintsAll (spent_text channel m tracks connections plan tally) before.paper after.paper) first.is.1.0 text));
            }
        by stop.Memory h is n = absurd h

    pub flow_refuted : FlowMayEnd words helping before.shelf after.shelf e → e.status ≡ 10 → result ≡ 10 → FlowIsRefuted words before after
    flow_refuted may ten r =
        let s = behind words helping before.shelf after.shelf 10 (λ n. absurd (omega (arith, n))) (λ n. absurd (omega (arith, n))) (λ n. absurd (omega (arith, n))) (λ n. absurd (omega (arith, n))) e may ten in
        refuted_by s s.ends ten r

    pub flow_spent : FlowMayEnd words helping before.shelf after.shelf e → e.status ≡ 11 → result ≡ 11 → FlowIsSpent words before after
    flow_spent may eleven r =
        let s = behind words helping before.shelf after.shelf 11 (λ n. absurd (omega (arith, n))) (λ n. absurd (omega (arith, n))) (λ n. absurd (omega (arith, n))) (λ n. absurd (omega (arith, n))) e may eleven in
        spent_by s s.ends eleven r

  pub flow_done : FlowMayEnd words helping before.shelf after.shelf e → e.status ≡ 0 → result ≡ 0 → FlowIsDone words before after
  flow_done may nought r =
      let s = behind words helping before.shelf after.shelf 0 (λ n. absurd (omega (arith, n))) (λ n. absurd (omega (arith, n))) (λ n. absurd (omega (arith, n))) (λ n. absurd (omega (arith, n))) e may nought in
      done_by s s.ends nought r

  pub flow_vertical : FlowMayEnd words helping before.shelf after.shelf e → e.status ≡ 9 → result ≡ 9 → FlowIsVertical words before after
  flow_vertical may nine r =
      let s = behind words helping before.shelf after.shelf 9 (λ n. absurd (omega (arith, n))) (λ n. absurd (omega (arith, n))) (λ n. absurd (omega (arith, n))) (λ n. absurd (omega (arith, n))) e may nine in
      vertical_by s s.ends nine r
