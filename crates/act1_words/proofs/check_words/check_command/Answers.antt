use Rattle.std.proofs.Common.{◌∙◌, ap, map, string_bytes}
use Rattle.clap.specs.Words.{app_of}
use Rattle.act1_words.specs.Commands.{check_app, check_asked, check_words}
use Rattle.act1_words.specs.declared.command.Command.TheVariants.{Check}
use Rattle.act1_words.proofs.Apps.{check_is_simple, is_found, is_none, found_is, none_is}
use Rattle.act1_words.proofs.check_words.check_command.Goals as goal

pub parse-requires : goal.parse-requires
parse-requires c = check_is_simple (app_of c.in_ok-app.app) c.in_ok-app.ensures

pub returns-in_ok-found-in-Some : goal.returns-in_ok-found-in-Some
returns-in_ok-found-in-Some c =
    let app = app_of c.in_ok-app.app in
    let words = map string_bytes c.args.words.now in
    ap Check c.in_ok-found-in-Some.ensures ∙ ap check_asked (found_is app check_app c.in_ok-app.ensures check_words words c.in-Some.matches (is_found app words c.in_ok-parsed.parsed c.in-Some.matches c.in_ok-parsed.ensures c.in-Some.is))

pub returns-in-None : goal.returns-in-None
returns-in-None c =
    let app = app_of c.in_ok-app.app in
    let words = map string_bytes c.args.words.now in
    ap check_asked (none_is app check_app c.in_ok-app.ensures check_words words (is_none app words c.in_ok-parsed.parsed c.in_ok-parsed.ensures c.in-None.is))
