use Rattle.std.proofs.Common.{◌∙◌, ap, map, string_bytes, subst, sym}
use Rattle.clap.specs.Words.{app_of}
use Rattle.act1_words.specs.Commands.{demo_app, demo_asked, demo_words, IsCountInRange}
use Rattle.act1_words.specs.declared.command.Command.TheVariants.{Demo}
use Rattle.act1_words.proofs.Apps.{count_in_range, demo_is_simple, is_found, is_none, found_is, none_is}
use Rattle.act1_words.proofs.demo_words.demo_command.Goals as goal

pub parse-requires : goal.parse-requires
parse-requires c = demo_is_simple (app_of c.in_ok-app.app) c.in_ok-app.ensures

pub returns-in_ok-found-in-Some : goal.returns-in_ok-found-in-Some
returns-in_ok-found-in-Some c =
    let app = app_of c.in_ok-app.app in
    let words = map string_bytes c.args.words.now in
    let found = is_found app words c.in_ok-parsed.parsed c.in-Some.matches c.in_ok-parsed.ensures c.in-Some.is in
    record {
      is = ap Demo c.in_ok-found-in-Some.ensures ∙ ap demo_asked (found_is app demo_app c.in_ok-app.ensures demo_words words c.in-Some.matches found);
      ranges = subst IsCountInRange (sym c.in_ok-found-in-Some.ensures) (count_in_range app c.in_ok-app.ensures words c.in-Some.matches found);
    }

pub returns-in-None : goal.returns-in-None
returns-in-None c =
    let app = app_of c.in_ok-app.app in
    let words = map string_bytes c.args.words.now in
    record {
      is = ap demo_asked (none_is app demo_app c.in_ok-app.ensures demo_words words (is_none app words c.in_ok-parsed.parsed c.in_ok-parsed.ensures c.in-None.is));
      ranges = tt;
    }
