use Rattle.std.proofs.Common.{◌≡◌, ◌+◌, Bool, false, List, drop, length, get_or, replicate, sym, ap, ◌∙◌}
use Rattle.act1_device.specs.declared.device.Site.TheVariants.{Along}
use Rattle.act1_array.proofs.SpotLemmas.{with_uses, length_marks, uses_more, uses_end, use_keeps_length, marks_made}
use Rattle.act1_array.proofs.spots.marks_of.Goals as goal

pub loop-site-init : goal.loop-site-init
loop-site-init c =
    let none : c.in_ok-marks.marks.items ≡ replicate 2048 false = c.in_ok-marks.ensures.items_if_clones_equal (λ y h. h) in
    (ap (with_uses c.args.sites.now) none, ap (λ (marks : List Bool). length marks) none ∙ length_marks 2048)

pub loop-site-preserved : goal.loop-site-preserved
loop-site-preserved c =
    let sites = c.args.sites.now in
    let i = c.loop-site.site-index in
    let marks = c.loop-site.marks.items in
    let site = get_or sites i (Along 0 0 0) in (
      ap (with_uses (drop (i + 1) sites)) c.mark_use.ensures ∙ sym (uses_more sites i marks (Along 0 0 0) c.loop-site-test.true) ∙ c.loop-site.invariant.0,
      ap (λ (ms : List Bool). length ms) c.mark_use.ensures ∙ use_keeps_length site marks ∙ c.loop-site.invariant.1,
    )

pub returns : goal.returns
returns c =
    let sites = c.args.sites.now in
    let marks = c.loop-site.marks.items in
    marks_made sites marks c.requires (sym (uses_end sites c.loop-site.site-index marks c.loop-site-test.false) ∙ c.loop-site.invariant.0)
