use Rattle.std.proofs.Common.{ap, length, map, string_bytes, ◌==◌}
use Rattle.clap.specs.Words.{app_of}
use Rattle.act1_words.proofs.Passes.{given_by_words, given_in_range}
use Rattle.act1_words.proofs.arguments.parse.Goals as goal

pub returns-in-Ok : goal.returns-in-Ok
returns-in-Ok c = record {
  taken = ap (λ kinds. length kinds == 0) (c.in-Ok.ensures.kinds c.requires);
  given = given_by_words (app_of c.args.command) (map string_bytes c.args.words.now) c.in-Ok.matches c.requires c.in-Ok.ensures.matches;
  ranges = given_in_range c.args.command c.in-Ok.matches c.requires c.in-Ok.ensures.parsed;
}
