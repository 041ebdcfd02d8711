-- What all commands owe, and what status 0 says of each. A new command is a line in each.
use Rattle.std.proofs.Common.{ℕ, ◌≡◌, arith}
use Rattle.act1_frame.specs.declared.ending.Ending.{Ending}
use Rattle.act1_frame.specs.Clauses.{Answers}
use Rattle.act1_frame.specs.Leaving.{Leaves}
use Rattle.act1_frame.specs.World.{World}
use Rattle.act1_frame.proofs.Fine.{status_of_text}
use Rattle.act1_frame.proofs.Runs.{IsLawful}
use Rattle.act1_outside.specs.Outside.{Bench}
use Rattle.act1_words.specs.declared.command.Command.{Command}
use Rattle.act1_words.specs.declared.command.Command.TheVariants.{Unknown, Flow, Sim, Extract, Check, Search, Cover, Blif, Demo}
use Rattle.act1_top.specs.FlowCommand.{helping_in}
use Rattle.act1_top.specs.Laws.{TextsAreOne}
use Rattle.act1_top.specs.Run.{reads_of, writes_of, writes_at, usage_ending, chosen_of, MayEnd, IsDone, IsVertical, IsRefuted, IsSpent, IsSure}
use Rattle.act1_top.proofs.BlifLaws.{blif_lawful, blif_done, blif_never}
use Rattle.act1_top.proofs.CheckLaws.{check_lawful, check_done, check_never}
use Rattle.act1_top.proofs.CoverLaws.{cover_lawful, cover_done, cover_never}
use Rattle.act1_top.proofs.DemoLaws.{demo_lawful, demo_done, demo_vertical, demo_refuted, demo_spent}
use Rattle.act1_top.proofs.ExtractLaws.{extract_lawful, extract_done, extract_never}
use Rattle.act1_top.proofs.FlowLaws.{flow_lawful, flow_done, flow_vertical, flow_refuted, flow_spent}
use Rattle.act1_top.proofs.FlowSure.{flow_sure}
use Rattle.act1_top.proofs.SearchLaws.{search_lawful, search_done, search_never, search_refuted, search_spent}
use Rattle.act1_top.proofs.SimLaws.{sim_lawful, sim_done, sim_never}
use Rattle.act1_top.proofs.Usage.{usage_lawful}

pub lawful : TextsAreOne → (bench left : Bench) (command : Command) → IsLawful (command ≡ Unknown) (reads_of command) (writes_of command) (writes_at command) (chosen_of command) (MayEnd command bench left)
lawful laws bench left Unknown = usage_lawful bench left
lawful laws bench left (Flow words) = flow_lawful laws (Flow words ≡ Unknown) words (helping_in words bench left)
lawful laws bench left (Sim words) = sim_lawful laws (Sim words ≡ Unknown) words
lawful laws bench left (Extract words) = extract_lawful laws (Extract words ≡ Unknown) words
lawful laws bench left (Check words) = check_lawful laws (Check words ≡ Unknown) words
lawful laws bench left (Search words) = search_lawful laws (Search words ≡ Unknown) words
lawful laws bench left (Cover words) = cover_lawful laws (Cover words ≡ Unknown) words
lawful laws bench left (Blif words) = blif_lawful laws (Blif words ≡ Unknown) words
lawful laws bench left (Demo words) = demo_lawful laws (Demo words ≡ Unknown) words

module _ (laws : TextsAreOne) (before : World) (result : ℕ) (after : World) (e : Ending) (leaves : Leaves e before.shelf before.paper result after.shelf after.paper) where
  pub is_done : (command : Command) → MayEnd command before.bench after.bench before.shelf after.shelf e → e.status ≡ 0 → result ≡ 0 → IsDone command before after
  is_done Unknown may zero r = let one = status_of_text 1 usage_ending.text e may in absurd (omega (arith, zero))
  is_done (Flow words) may zero r = flow_done words before result after e leaves may zero r
  is_done (Sim words) may zero r = sim_done words before result after e may leaves zero r
  is_done (Extract words) may zero r = extract_done words before result after e may leaves zero r
  is_done (Check words) may zero r = check_done laws words before result after e may leaves zero r
  is_done (Search words) may zero r = search_done laws words before result after e leaves may zero r
  is_done (Cover words) may zero r = cover_done words before result after e may leaves zero r
  is_done (Blif words) may zero r = blif_done words before result after e may leaves zero r
  is_done (Demo words) may zero r = demo_done words before result after e leaves may zero r

  pub is_vertical : (command : Command) → MayEnd command before.bench after.bench before.shelf after.shelf e → e.status ≡ 9 → result ≡ 9 → IsVertical command before after
  is_vertical Unknown may nine r = let one = status_of_text 1 usage_ending.text e may in absurd (omega (arith, nine))
  is_vertical (Flow words) may nine r = flow_vertical words before result after e leaves may nine r
  is_vertical (Sim words) may nine r = sim_never words before.shelf after.shelf e may (omega (arith, nine)) (omega (arith, nine))
  is_vertical (Extract words) may nine r = extract_never words before.shelf after.shelf e may (omega (arith, nine)) (omega (arith, nine))
  is_vertical (Check words) may nine r = check_never words before.shelf after.shelf e may (omega (arith, nine)) (omega (arith, nine))
  is_vertical (Search words) may nine r = search_never words before.shelf after.shelf e may nine
  is_vertical (Cover words) may nine r = cover_never words before.shelf after.shelf e may (omega (arith, nine)) (omega (arith, nine))
  is_vertical (Blif words) may nine r = blif_never words before.shelf after.shelf e may (omega (arith, nine)) (omega (arith, nine))
  is_vertical (Demo words) may nine r = demo_vertical words before result after e leaves may nine r

  pub is_refuted : (command : Command) → MayEnd command before.bench after.bench before.shelf after.shelf e → e.status ≡ 10 → result ≡ 10 → IsRefuted command before after
  is_refuted Unknown may ten r = let one = status_of_text 1 usage_ending.text e may in absurd (omega (arith, ten))
  is_refuted (Flow words) may ten r = flow_refuted words before result after e leaves laws may ten r
  is_refuted (Sim words) may ten r = sim_never words before.shelf after.shelf e may (omega (arith, ten)) (omega (arith, ten))
  is_refuted (Extract words) may ten r = extract_never words before.shelf after.shelf e may (omega (arith, ten)) (omega (arith, ten))
  is_refuted (Check words) may ten r = check_never words before.shelf after.shelf e may (omega (arith, ten)) (omega (arith, ten))
  is_refuted (Search words) may ten r = search_refuted laws words before result after e leaves may ten r
  is_refuted (Cover words) may ten r = cover_never words before.shelf after.shelf e may (omega (arith, ten)) (omega (arith, ten))
  is_refuted (Blif words) may ten r = blif_never words before.shelf after.shelf e may (omega (arith, ten)) (omega (arith, ten))
  is_refuted (Demo words) may ten r = demo_refuted words before result after e leaves laws may ten r

  pub is_spent : (command : Command) → MayEnd command before.bench after.bench before.shelf after.shelf e → e.status ≡ 11 → result ≡ 11 → IsSpent command before after
  is_spent Unknown may eleven r = let one = status_of_text 1 usage_ending.text e may in absurd (omega (arith, eleven))
  is_spent (Flow words) may eleven r = flow_spent words before result after e leaves laws may eleven r
  is_spent (Sim words) may eleven r = sim_never words before.shelf after.shelf e may (omega (arith, eleven)) (omega (arith, eleven))
  is_spent (Extract words) may eleven r = extract_never words before.shelf after.shelf e may (omega (arith, eleven)) (omega (arith, eleven))
  is_spent (Check words) may eleven r = check_never words before.shelf after.shelf e may (omega (arith, eleven)) (omega (arith, eleven))
  is_spent (Search words) may eleven r = search_spent laws words before result after e leaves may eleven r
  is_spent (Cover words) may eleven r = cover_never words before.shelf after.shelf e may (omega (arith, eleven)) (omega (arith, eleven))
  is_spent (Blif words) may eleven r = blif_never words before.shelf after.shelf e may (omega (arith, eleven)) (omega (arith, eleven))
  is_spent (Demo words) may eleven r = demo_spent words before result after e leaves laws may eleven r

-- what is sure of a command's status
pub is_sure : TextsAreOne → (before : World) (result : ℕ) (after : World) (e : Ending) (command : Command) → MayEnd command before.bench after.bench before.shelf after.shelf e → Answers e.status (writes_of command) before result after → IsSure command before result after
is_sure laws before result after e Unknown may answer = tt
is_sure laws before result after e (Flow words) may answer = flow_sure laws words before result after e may answer
is_sure laws before result after e (Sim words) may answer = tt
is_sure laws before result after e (Extract words) may answer = tt
is_sure laws before result after e (Check words) may answer = tt
is_sure laws before result after e (Search words) may answer = tt
is_sure laws before result after e (Cover words) may answer = tt
is_sure laws before result after e (Blif words) may answer = tt
is_sure laws before result after e (Demo words) may answer = tt

-- words that are no command have the status 1
pub usage_status : (command : Command) (before after : World) (e : Ending) → MayEnd command before.bench after.bench before.shelf after.shelf e → command ≡ Unknown → e.status ≡ 1
usage_status Unknown before after e may is = status_of_text 1 usage_ending.text e may
usage_status (Flow words) before after e may is = cc
usage_status (Sim words) before after e may is = cc
usage_status (Extract words) before after e may is = cc
usage_status (Check words) before after e may is = cc
usage_status (Search words) before after e may is = cc
usage_status (Cover words) before after e may is = cc
usage_status (Blif words) before after e may is = cc
usage_status (Demo words) before after e may is = cc
