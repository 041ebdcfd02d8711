-- What each command takes: the steps that make it, that it is a simple one, and the ranges of its numbers.
use Rattle.std.proofs.Common.{◌≡◌, Bool, true, false, List, codes, Option, Some, None, refl, sym, ap, subst, ◌∙◌, if◌then◌else◌}
use Rattle.clap.specs.Words.{App, Text, first_value, found_of, is_simple_and_free, with_rule}
use Rattle.clap.specs.declared.parser.matches.ArgMatches.{ArgMatches}
use Rattle.clap.proofs.OnLiterals.{clap_on_literals}
use Rattle.act1_words.specs.Commands.{blif_app, check_app, cover_app, demo_app, demo_words, extract_app, flow_app, flow_words, search_app, sim_app, IsCountInRange, IsInRanges}
use Rattle.act1_words.specs.Given.{Given, are_taken, count_rule, file_rule, given_by, is_number, number_rule, plain_app, taken, text_rule, IsFoundOf, IsParseOf}

pub flow_steps : (plain device blif fuses report k budget seed jobs whole : App) → plain ≡ plain_app (codes "flow")
    → device ≡ with_rule plain (file_rule (codes "DEVICE"))
    → blif ≡ with_rule device (file_rule (codes "BLIF"))
    → fuses ≡ with_rule blif (file_rule (codes "FUSES"))
    → report ≡ with_rule fuses (file_rule (codes "REPORT"))
    → k ≡ with_rule report (number_rule (codes "k") 1 64 (codes "3"))
    → budget ≡ with_rule k (number_rule (codes "budget") 1 1000000000000 (codes "100000"))
    → seed ≡ with_rule budget (number_rule (codes "seed") 0 18446744073709551615 (codes "0"))
    → jobs ≡ with_rule seed (number_rule (codes "jobs") 0 64 (codes "0"))
    → whole ≡ with_rule jobs (text_rule (codes "with"))
    → whole ≡ flow_app
unfolding flow_app
flow_steps plain device blif fuses report k budget seed jobs whole a b c d e f g h i j =
    j ∙ ap (λ x. with_rule x (text_rule (codes "with"))) (i ∙ ap (λ x. with_rule x (number_rule (codes "jobs") 0 64 (codes "0"))) (h ∙ ap (λ x. with_rule x (number_rule (codes "seed") 0 18446744073709551615 (codes "0"))) (g ∙ ap (λ x. with_rule x (number_rule (codes "budget") 1 1000000000000 (codes "100000"))) (f ∙ ap (λ x. with_rule x (number_rule (codes "k") 1 64 (codes "3"))) (e ∙ ap (λ x. with_rule x (file_rule (codes "REPORT"))) (d ∙ ap (λ x. with_rule x (file_rule (codes "FUSES"))) (c ∙ ap (λ x. with_rule x (file_rule (codes "BLIF"))) (b ∙ ap (λ x. with_rule x (file_rule (codes "DEVICE"))) a))))))))

pub sim_steps : (plain device fuses vectors whole : App) → plain ≡ plain_app (codes "sim")
    → device ≡ with_rule plain (file_rule (codes "DEVICE"))
    → fuses ≡ with_rule device (file_rule (codes "FUSES"))
    → vectors ≡ with_rule fuses (file_rule (codes "VECTORS"))
    → whole ≡ with_rule vectors (number_rule (codes "fill") 0 1 (codes "0"))
    → whole ≡ sim_app
unfolding sim_app
sim_steps plain device fuses vectors whole a b c d e =
    e ∙ ap (λ x. with_rule x (number_rule (codes "fill") 0 1 (codes "0"))) (d ∙ ap (λ x. with_rule x (file_rule (codes "VECTORS"))) (c ∙ ap (λ x. with_rule x (file_rule (codes "FUSES"))) (b ∙ ap (λ x. with_rule x (file_rule (codes "DEVICE"))) a)))

pub extract_steps : (plain device fuses whole : App) → plain ≡ plain_app (codes "extract")
    → device ≡ with_rule plain (file_rule (codes "DEVICE"))
    → fuses ≡ with_rule device (file_rule (codes "FUSES"))
    → whole ≡ with_rule fuses (file_rule (codes "BLIF"))
    → whole ≡ extract_app
unfolding extract_app
extract_steps plain device fuses whole a b c d =
    d ∙ ap (λ x. with_rule x (file_rule (codes "BLIF"))) (c ∙ ap (λ x. with_rule x (file_rule (codes "FUSES"))) (b ∙ ap (λ x. with_rule x (file_rule (codes "DEVICE"))) a))

pub check_steps : (plain device whole : App) → plain ≡ plain_app (codes "check")
    → device ≡ with_rule plain (file_rule (codes "DEVICE"))
    → whole ≡ with_rule device (file_rule (codes "REPORT"))
    → whole ≡ check_app
unfolding check_app
check_steps plain device whole a b c =
    c ∙ ap (λ x. with_rule x (file_rule (codes "REPORT"))) (b ∙ ap (λ x. with_rule x (file_rule (codes "DEVICE"))) a)

pub search_steps : (plain job whole : App) → plain ≡ plain_app (codes "search")
    → job ≡ with_rule plain (file_rule (codes "JOB"))
    → whole ≡ with_rule job (file_rule (codes "ANSWER"))
    → whole ≡ search_app
unfolding search_app
search_steps plain job whole a b c =
    c ∙ ap (λ x. with_rule x (file_rule (codes "ANSWER"))) (b ∙ ap (λ x. with_rule x (file_rule (codes "JOB"))) a)

pub cover_steps : (plain whole : App) → plain ≡ plain_app (codes "cover")
    → whole ≡ with_rule plain (file_rule (codes "BLIF"))
    → whole ≡ cover_app
unfolding cover_app
cover_steps plain whole a b =
    b ∙ ap (λ x. with_rule x (file_rule (codes "BLIF"))) a

pub blif_steps : (plain whole : App) → plain ≡ plain_app (codes "blif")
    → whole ≡ with_rule plain (file_rule (codes "BLIF"))
    → whole ≡ blif_app
unfolding blif_app
blif_steps plain whole a b =
    b ∙ ap (λ x. with_rule x (file_rule (codes "BLIF"))) a

pub demo_steps : (plain device bits whole : App) → plain ≡ plain_app (codes "demo")
    → device ≡ with_rule plain (file_rule (codes "DEVICE"))
    → bits ≡ with_rule device (count_rule (codes "N") 1 64)
    → whole ≡ with_rule bits (file_rule (codes "FUSES"))
    → whole ≡ demo_app
unfolding demo_app
demo_steps plain device bits whole a b c d =
    d ∙ ap (λ x. with_rule x (file_rule (codes "FUSES"))) (c ∙ ap (λ x. with_rule x (count_rule (codes "N") 1 64)) (b ∙ ap (λ x. with_rule x (file_rule (codes "DEVICE"))) a))

flow_simple : is_simple_and_free flow_app ≡ true
unfolding flow_app file_rule number_rule text_rule plain_app clap_on_literals
flow_simple = refl

pub flow_is_simple : (app : App) → app ≡ flow_app → is_simple_and_free app ≡ true
flow_is_simple app is = ap is_simple_and_free is ∙ flow_simple

sim_simple : is_simple_and_free sim_app ≡ true
unfolding sim_app file_rule number_rule plain_app clap_on_literals
sim_simple = refl

pub sim_is_simple : (app : App) → app ≡ sim_app → is_simple_and_free app ≡ true
sim_is_simple app is = ap is_simple_and_free is ∙ sim_simple

extract_simple : is_simple_and_free extract_app ≡ true
unfolding extract_app file_rule plain_app clap_on_literals
extract_simple = refl

pub extract_is_simple : (app : App) → app ≡ extract_app → is_simple_and_free app ≡ true
extract_is_simple app is = ap is_simple_and_free is ∙ extract_simple

check_simple : is_simple_and_free check_app ≡ true
unfolding check_app file_rule plain_app clap_on_literals
check_simple = refl

pub check_is_simple : (app : App) → app ≡ check_app → is_simple_and_free app ≡ true
check_is_simple app is = ap is_simple_and_free is ∙ check_simple

search_simple : is_simple_and_free search_app ≡ true
unfolding search_app file_rule plain_app clap_on_literals
search_simple = refl

pub search_is_simple : (app : App) → app ≡ search_app → is_simple_and_free app ≡ true
search_is_simple app is = ap is_simple_and_free is ∙ search_simple

cover_simple : is_simple_and_free cover_app ≡ true
unfolding cover_app file_rule plain_app clap_on_literals
cover_simple = refl

pub cover_is_simple : (app : App) → app ≡ cover_app → is_simple_and_free app ≡ true
cover_is_simple app is = ap is_simple_and_free is ∙ cover_simple

blif_simple : is_simple_and_free blif_app ≡ true
unfolding blif_app file_rule plain_app clap_on_literals
blif_simple = refl

pub blif_is_simple : (app : App) → app ≡ blif_app → is_simple_and_free app ≡ true
blif_is_simple app is = ap is_simple_and_free is ∙ blif_simple

demo_simple : is_simple_and_free demo_app ≡ true
unfolding demo_app count_rule file_rule plain_app clap_on_literals
demo_simple = refl

pub demo_is_simple : (app : App) → app ≡ demo_app → is_simple_and_free app ≡ true
demo_is_simple app is = ap is_simple_and_free is ∙ demo_simple

count_range : is_number (codes "N") 1 64 1 demo_app.top.rules ≡ true
unfolding demo_app count_rule file_rule plain_app
count_range = refl

k_range : is_number (codes "k") 1 64 3 flow_app.top.rules ≡ true
unfolding flow_app file_rule number_rule text_rule plain_app
k_range = refl

budget_range : is_number (codes "budget") 1 1000000000000 100000 flow_app.top.rules ≡ true
unfolding flow_app file_rule number_rule text_rule plain_app
budget_range = refl

jobs_range : is_number (codes "jobs") 0 64 0 flow_app.top.rules ≡ true
unfolding flow_app file_rule number_rule text_rule plain_app
jobs_range = refl

-- what a parse says of what it answers
pub is_found : (app : App) (words : List Text) (parsed : Option ArgMatches) (m : ArgMatches) → IsParseOf app words parsed → parsed ≡ Some m → IsFoundOf app words m
is_found app words parsed m h is = subst (IsParseOf app words) is h

pub is_none : (app : App) (words : List Text) (parsed : Option ArgMatches) → IsParseOf app words parsed → parsed ≡ None → are_taken app words ≡ false
is_none app words parsed h is = subst (IsParseOf app words) is h

module _ {X : Type 0} (app own : App) (is : app ≡ own) (made : Given → X) (words : List Text) where
  abbrev choice : Bool → Option X
  choice b = if b then Some (made (given_by own words)) else None

  same_taken : (b : Bool) → are_taken app words ≡ b → are_taken own words ≡ b
  same_taken b h = ap (λ (a : App). are_taken a words) (sym is) ∙ h

  -- what is made of what a parse found is made of what the words give
  pub found_is : (m : ArgMatches) → IsFoundOf app words m → Some (made (first_value (found_of m))) ≡ taken own made words
  found_is m f =
      let same : first_value (found_of m) ≡ given_by own words = (λ i id. f.given id i) ∙ ap (λ (a : App). given_by a words) is in
      ap (λ (g : Given). let o : Option X = Some (made g) in o) same ∙ sym (ap choice (same_taken true f.taken))

  pub none_is : are_taken app words ≡ false → None ≡ taken own made words
  none_is h = sym (ap choice (same_taken false h))

-- the numbers of `flow` are in their ranges
pub in_ranges : (app : App) → app ≡ flow_app → (words : List Text) (m : ArgMatches) → IsFoundOf app words m → IsInRanges (flow_words (first_value (found_of m)))
in_ranges app is words m f =
    let k = f.ranges (codes "k") 1 64 3 (ap (λ (a : App). is_number (codes "k") 1 64 3 a.top.rules) is ∙ k_range) in
    let budget = f.ranges (codes "budget") 1 1000000000000 100000 (ap (λ (a : App). is_number (codes "budget") 1 1000000000000 100000 a.top.rules) is ∙ budget_range) in
    let jobs = f.ranges (codes "jobs") 0 64 0 (ap (λ (a : App). is_number (codes "jobs") 0 64 0 a.top.rules) is ∙ jobs_range) in
    record { least_k = k.0; most_k = k.1; least_budget = budget.0; most_budget = budget.1; most_jobs = jobs.1 }

-- so is that of `demo`
pub count_in_range : (app : App) → app ≡ demo_app → (words : List Text) (m : ArgMatches) → IsFoundOf app words m → IsCountInRange (demo_words (first_value (found_of m)))
count_in_range app is words m f =
    let bits = f.ranges (codes "N") 1 64 1 (ap (λ (a : App). is_number (codes "N") 1 64 1 a.top.rules) is ∙ count_range) in
    record { least = bits.0; most = bits.1 }
