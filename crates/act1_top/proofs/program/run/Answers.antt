use Rattle.std.proofs.Common.{◌≡◌, map, refl, inl, arith}
use Rattle.std.specs.String.{string_bytes}
use Rattle.act1_frame.specs.World.{world_of}
use Rattle.act1_frame.proofs.Runs.{answers, leaves_before, status_at, causes, is_complete, usage, read_fault, write_fault, too_long, others, kept}
use Rattle.act1_top.specs.Run.{reads_of, writes_of, writes_at, chosen_of, MayEnd}
use Rattle.act1_words.specs.Commands.{command_of}
use Rattle.act1_words.specs.declared.command.Command.TheVariants.{Unknown}
use Rattle.act1_top.proofs.Commands.{lawful, is_done, is_vertical, is_refuted, is_spent, is_sure, usage_status}
use Rattle.act1_top.proofs.program.run.Goals as goal

pub returns-in-Ok : goal.returns-in-Ok
returns-in-Ok g c =
    let command = command_of (map string_bytes c.args.words.now) in
    let shelf = g.F.Files.seen c.args.files.now in
    let mid = g.F.Files.seen c.decide.new.files in
    let left = g.F.Files.seen c.finish.new.files in
    let blank = g.S.Sink.seen c.args.out.now in
    let paper = g.S.Sink.seen c.finish.new.out in
    let bench = g.H.Helpers.seen c.args.helpers.now in
    let asked = g.H.Helpers.seen c.decide.new.helpers in
    let before = world_of shelf blank bench in
    let after = world_of left paper asked in
    let result = c.finish.result in
    let e = c.in-Ok.ending in
    let law = lawful c.texts_are_one.ensures bench asked command in
    let may = law.later shelf mid left c.finish.ensures.reads e c.in-Ok.ensures.ending in
    let leaves = leaves_before shelf mid left c.in-Ok.ensures.files e blank result paper c.finish.ensures.ends in
    let reads = reads_of command in
    let writes = writes_of command in
    let at = writes_at command in
    let Chosen = chosen_of command in
    let May = MayEnd command bench asked in
    let at_status = status_at (command ≡ Unknown) reads writes at Chosen May law before result after e may leaves in
    record {
      done = λ zero. is_done c.texts_are_one.ensures before result after e leaves command may (at_status 0 (λ z. absurd (omega (arith, z))) (λ z. absurd (omega (arith, z))) zero) zero;
      vertical = λ nine. is_vertical c.texts_are_one.ensures before result after e leaves command may (at_status 9 (λ z. absurd (omega (arith, z))) (λ z. absurd (omega (arith, z))) nine) nine;
      refuted = λ ten. is_refuted c.texts_are_one.ensures before result after e leaves command may (at_status 10 (λ z. absurd (omega (arith, z))) (λ z. absurd (omega (arith, z))) ten) ten;
      spent = λ eleven. is_spent c.texts_are_one.ensures before result after e leaves command may (at_status 11 (λ z. absurd (omega (arith, z))) (λ z. absurd (omega (arith, z))) eleven) eleven;
      ends = inl (e, may, leaves);
      causes = causes (command ≡ Unknown) reads writes at Chosen May law before result after e may leaves;
      complete = is_complete (command ≡ Unknown) reads writes at Chosen May law before result after e may leaves;
      sure = is_sure c.texts_are_one.ensures before result after e command may (answers (command ≡ Unknown) reads writes at Chosen May law before result after e may leaves e.status refl);
      usage = λ is. answers (command ≡ Unknown) reads writes at Chosen May law before result after e may leaves 1 (usage_status command before after e may is);
      no_command = usage (command ≡ Unknown) reads writes at Chosen May law before result after e may leaves;
      read_fault = read_fault (command ≡ Unknown) reads writes at Chosen May law before result after e may leaves;
      write_fault = write_fault (command ≡ Unknown) reads writes at Chosen May law before result after e may leaves;
      too_long = too_long (command ≡ Unknown) reads writes at Chosen May law before result after e may leaves;
      kept = kept (command ≡ Unknown) reads writes at Chosen May law before result after e may leaves;
      others = others (command ≡ Unknown) reads writes at Chosen May law before result after e may leaves;
      helpers = c.decide.ensures.helpers;
    }
