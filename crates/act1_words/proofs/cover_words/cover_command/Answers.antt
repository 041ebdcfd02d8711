use Rattle.std.proofs.Common.{◌∙◌, ap, map, string_bytes}
use Rattle.clap.specs.Words.{app_of}
use Rattle.act1_words.specs.Commands.{cover_app, cover_asked, cover_words}
use Rattle.act1_words.specs.declared.command.Command.TheVariants.{Cover}
use Rattle.act1_words.proofs.Apps.{cover_is_simple, is_found, is_none, found_is, none_is}
use Rattle.act1_words.proofs.cover_words.cover_command.Goals as goal

pub parse-requires : goal.parse-requires
parse-requires c = cover_is_simple (app_of c.in_ok-app.app) c.in_ok-app.ensures

pub returns-in_ok-found-in-Some : goal.returns-in_ok-found-in-Some
returns-in_ok-found-in-Some c =
    let app = app_of c.in_ok-app.app in
    let words = map string_bytes c.args.words.now in
    ap Cover c.in_ok-found-in-Some.ensures ∙ ap cover_asked (found_is app cover_app c.in_ok-app.ensures cover_words words c.in-Some.matches (is_found app words c.in_ok-parsed.parsed c.in-Some.matches c.in_ok-parsed.ensures c.in-Some.is))

pub returns-in-None : goal.returns-in-None
returns-in-None c =
    let app = app_of c.in_ok-app.app in
    let words = map string_bytes c.args.words.now in
    ap cover_asked (none_is app cover_app c.in_ok-app.ensures cover_words words (is_none app words c.in_ok-parsed.parsed c.in_ok-parsed.ensures c.in-None.is))
