-- To which ends the command `flow` comes where its texts are accepted and nothing stands in the way.
use Rattle.std.proofs.Common.{ℕ, ◌≡◌, ◌≢◌, ◌⊎◌, [], ◌∷◌, inl, inr, sym, subst, ◌∙◌, arith}
use Rattle.std.specs.Prelude.{Result, Ok, Err}
use Rattle.act1_device.specs.declared.device.Device.{Device}
use Rattle.act1_devread.specs.Text.{DeviceText}
use Rattle.act1_blif.specs.declared.blif.Blif.{Blif}
use Rattle.act1_blifread.specs.Text.{BlifText}
use Rattle.act1_plan.specs.declared.plan.Plan.{Plan}
use Rattle.act1_ample.specs.Ample.{IsAmple}
use Rattle.act1_flow.specs.Flow.{FlowGives, IsStop}
use Rattle.act1_flow.specs.Helping.{Helping}
use Rattle.act1_flow.specs.Realizes.{IsPlanFor}
use Rattle.act1_flow.specs.Sure.{IsEnoughFor, IsRoutedOrMemory}
use Rattle.act1_flow.specs.declared.answer.FlowStop.{FlowStop}
use Rattle.act1_flow.specs.declared.answer.FlowStop.TheVariants as stop
use Rattle.act1_flow.specs.declared.answer.Routed.{Routed}
use Rattle.act1_flow.specs.declared.answer.Settings.{Settings}
use Rattle.act1_frame.specs.declared.ending.Ending.{Ending}
use Rattle.act1_frame.specs.Clauses.{Answers}
use Rattle.act1_frame.specs.Reading.{ReadFailed}
use Rattle.act1_frame.specs.World.{World}
use Rattle.act1_frame.proofs.One.{went_on_with}
use Rattle.act1_words.specs.declared.command.FlowWords.{FlowWords}
use Rattle.act1_top.specs.Files.{file_of, DeviceRefused, NetlistRefused}
use Rattle.act1_top.specs.FlowCommand.{flow_reads, flow_writes, settings_of, helping_in, routed_ending, stop_ending, FlowEnds, FlowMayEnd}
use Rattle.act1_top.specs.Laws.{TextsAreOne}
use Rattle.act1_top.specs.Sure.{AreAccepted, FlowIsComplete, FlowIsSure, IsFlowStatus, IsUndisturbed}
use Rattle.act1_top.proofs.FlowLaws.{Rest, status_is, status_of, stop_status}
use Rattle.act1_top.proofs.Places.{first_of, second_of}
use Rattle.act1_top.proofs.TextsRead.{device_exact, netlist_exact}

-- a cause is what the flow gives
gives_of : (dev : Device) (net : Blif) (settings : Settings) (helping : Helping) (why : FlowStop) → IsStop dev net settings helping why → FlowGives dev net settings helping (Err why)
gives_of dev net settings helping (stop.Pads needed have) h = h
gives_of dev net settings helping (stop.Full needed have) h = h
gives_of dev net settings helping (stop.Vertical source channel plan) h = h
gives_of dev net settings helping (stop.Refuted report connections tally) h = h
gives_of dev net settings helping (stop.Spent plan channel conflicts tracks connections tally) h = h
gives_of dev net settings helping stop.Memory h = absurd h

-- no cause stands on an ample device
no_stop : TextsAreOne → (dev : Device) (net : Blif) (settings : Settings) (helping : Helping) → IsAmple dev net → (why : FlowStop) → IsStop dev net settings helping why → ⊥
no_stop laws dev net settings helping ample why h = by (laws.ample dev net settings helping (Err why) ample (gives_of dev net settings helping why h))
  where
    memory : why ≡ stop.Memory → ⊥
    memory e = subst (IsStop dev net settings helping) e h

    by : IsRoutedOrMemory (Err why) → ⊥
    by (inl (routed, e)) = cc
    by (inr e) = memory cc

module _ (laws : TextsAreOne) (words : FlowWords) (helping : Helping) (dev : Device) (net : Blif) (e : Ending) where
  -- the status of a cause
  of_stop : (why : FlowStop) → IsStop dev net (settings_of words) helping why → IsFlowStatus (stop_status why)
  of_stop (stop.Pads needed have) h = inr (inl (omega arith))
  of_stop (stop.Full needed have) h = inr (inl (omega arith))
  of_stop (stop.Vertical source channel plan) h = inr (inr (inl (omega arith)))
  of_stop (stop.Refuted report connections tally) h = inr (inr (inr (inl (omega arith))))
  of_stop (stop.Spent plan channel conflicts tracks connections tally) h = inr (inr (inr (inr (inl (omega arith)))))
  of_stop stop.Memory h = absurd h

  status_in : FlowEnds words helping dev net e → IsFlowStatus e.status
  status_in (inl (why, h, is)) = subst IsFlowStatus (sym (status_is words.report why e is)) (of_stop why h)
  status_in (inr (routed, is_routed, is)) = inl (status_of e (routed_ending words.fuses routed.fuses routed.modules routed.tally) is)

  -- a search that is spent has a plan for which the budget isn't enough
  spent_short : ((plan : Plan) → IsPlanFor dev net (settings_of words) plan → IsEnoughFor dev plan words.budget) → (why : FlowStop) → IsStop dev net (settings_of words) helping why → stop_status why ≢ 11
  spent_short enough (stop.Pads needed have) h = λ n. absurd (omega (arith, n))
  spent_short enough (stop.Full needed have) h = λ n. absurd (omega (arith, n))
  spent_short enough (stop.Vertical source channel plan) h = λ n. absurd (omega (arith, n))
  spent_short enough (stop.Refuted report connections tally) h = λ n. absurd (omega (arith, n))
  spent_short enough (stop.Spent plan channel conflicts tracks connections tally) h =
      λ n. laws.unspent dev net (settings_of words) helping (Err (stop.Spent plan channel conflicts tracks connections tally)) h (enough plan h.2.plan_is)
  spent_short enough stop.Memory h = absurd h

  not_spent : ((plan : Plan) → IsPlanFor dev net (settings_of words) plan → IsEnoughFor dev plan words.budget) → FlowEnds words helping dev net e → e.status ≢ 11
  not_spent enough (inl (why, h, is)) = λ n. spent_short enough why h (sym (status_is words.report why e is) ∙ n)
  not_spent enough (inr (routed, is_routed, is)) = λ n. let nought = status_of e (routed_ending words.fuses routed.fuses routed.modules routed.tally) is in absurd (omega (arith, n))

  -- on an ample device it is done
  done : IsAmple dev net → FlowEnds words helping dev net e → e.status ≡ 0
  done ample (inl (why, h, is)) = absurd (no_stop laws dev net (settings_of words) helping ample why h)
  done ample (inr (routed, is_routed, is)) = status_of e (routed_ending words.fuses routed.fuses routed.modules routed.tally) is

  -- the status is that of the ending, or 15
  sure_by : (result : ℕ) → FlowEnds words helping dev net e → (result ≡ e.status) ⊎ (result ≡ 15) → FlowIsSure words dev net result
  sure_by result ends (inl same) = record {
    status = subst IsFlowStatus (sym same) (status_in ends);
    unspent = λ enough n. not_spent enough ends (sym same ∙ n);
    ample = λ ample. inl (same ∙ done ample ends);
  }
  sure_by result ends (inr memory) = record {
    status = inr (inr (inr (inr (inr memory))));
    unspent = λ enough n. absurd (omega (arith, n, memory));
    ample = λ ample. inr memory;
  }

pub flow_sure : TextsAreOne → (words : FlowWords) (before : World) (result : ℕ) (after : World) (e : Ending) → FlowMayEnd words (helping_in words before.bench after.bench) before.shelf after.shelf e → Answers e.status (flow_writes words) before result after
    → FlowIsComplete words before result after
flow_sure laws words before result after e stages answer undisturbed dev net accepted = sure_by laws words helping dev net e result ends (by answer)
  where
    helping : Helping
    helping = helping_in words before.bench after.bench

    no_device_fault : ReadFailed before.shelf after.shelf words.device → ⊥
    no_device_fault f = undisturbed.reads (file_of words.device, first_of (file_of words.device) (file_of words.blif ∷ []), f)

    no_netlist_fault : ReadFailed before.shelf after.shelf words.blif → ⊥
    no_netlist_fault f = undisturbed.reads (file_of words.blif, second_of (file_of words.device) (file_of words.blif) [], f)

    ends : FlowEnds words helping dev net e
    ends =
        went_on_with before.shelf after.shelf undisturbed.tells (file_of words.blif) no_netlist_fault BlifText NetlistRefused (netlist_exact laws) (FlowEnds words helping dev) net accepted.netlist e
        (went_on_with before.shelf after.shelf undisturbed.tells (file_of words.device) no_device_fault DeviceText DeviceRefused (device_exact laws) (Rest words helping before.shelf after.shelf) dev accepted.device e stages)

    by : Answers e.status (flow_writes words) before result after → (result ≡ e.status) ⊎ (result ≡ 15)
    by (inl same) = inl same
    by (inr (inl (three, fault))) = absurd (undisturbed.writes fault)
    by (inr (inr memory)) = inr memory
