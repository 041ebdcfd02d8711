use Rattle.std.proofs.Common.{◌∙◌, Some, ap, map, string_bytes, subst, sym}
use Rattle.clap.specs.Words.{app_of}
use Rattle.act1_words.specs.Commands.{flow_app, flow_words, IsInRanges}
use Rattle.act1_words.proofs.Apps.{flow_is_simple, found_is, in_ranges, is_found, is_none, none_is}
use Rattle.act1_words.proofs.flow_words.taken_words.Goals as goal

pub parse-requires : goal.parse-requires
parse-requires c = flow_is_simple (app_of c.in_ok-app.app) c.in_ok-app.ensures

pub returns-in_ok-found-in-Some : goal.returns-in_ok-found-in-Some
returns-in_ok-found-in-Some c =
    let app = app_of c.in_ok-app.app in
    let words = map string_bytes c.args.words.now in
    let found = is_found app words c.in_ok-parsed.parsed c.in-Some.matches c.in_ok-parsed.ensures c.in-Some.is in
    record {
      is = ap Some c.in_ok-found-in-Some.ensures ∙ found_is app flow_app c.in_ok-app.ensures flow_words words c.in-Some.matches found;
      ranges = subst IsInRanges (sym c.in_ok-found-in-Some.ensures) (in_ranges app c.in_ok-app.ensures words c.in-Some.matches found);
    }

pub returns-in-None : goal.returns-in-None
returns-in-None c =
    let app = app_of c.in_ok-app.app in
    let words = map string_bytes c.args.words.now in
    record {
      is = none_is app flow_app c.in_ok-app.ensures flow_words words (is_none app words c.in_ok-parsed.parsed c.in_ok-parsed.ensures c.in-None.is);
      ranges = tt;
    }
