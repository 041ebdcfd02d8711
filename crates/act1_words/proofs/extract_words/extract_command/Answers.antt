use Rattle.std.proofs.Common.{◌∙◌, ap, map, string_bytes}
use Rattle.clap.specs.Words.{app_of}
use Rattle.act1_words.specs.Commands.{extract_app, extract_asked, extract_words}
use Rattle.act1_words.specs.declared.command.Command.TheVariants.{Extract}
use Rattle.act1_words.proofs.Apps.{extract_is_simple, is_found, is_none, found_is, none_is}
use Rattle.act1_words.proofs.extract_words.extract_command.Goals as goal

pub parse-requires : goal.parse-requires
parse-requires c = extract_is_simple (app_of c.in_ok-app.app) c.in_ok-app.ensures

pub returns-in_ok-found-in-Some : goal.returns-in_ok-found-in-Some
returns-in_ok-found-in-Some c =
    let app = app_of c.in_ok-app.app in
    let words = map string_bytes c.args.words.now in
    ap Extract c.in_ok-found-in-Some.ensures ∙ ap extract_asked (found_is app extract_app c.in_ok-app.ensures extract_words words c.in-Some.matches (is_found app words c.in_ok-parsed.parsed c.in-Some.matches c.in_ok-parsed.ensures c.in-Some.is))

pub returns-in-None : goal.returns-in-None
returns-in-None c =
    let app = app_of c.in_ok-app.app in
    let words = map string_bytes c.args.words.now in
    ap extract_asked (none_is app extract_app c.in_ok-app.ensures extract_words words (is_none app words c.in_ok-parsed.parsed c.in_ok-parsed.ensures c.in-None.is))
