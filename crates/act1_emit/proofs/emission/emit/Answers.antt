use Rattle.std.proofs.Common.{◌≡◌}
use Rattle.std.proofs.lemmas.Result.{IfOk-weaker}
use Rattle.act1_fuses.specs.declared.fuses.FuseFile.{FuseFile}
use Rattle.act1_emit.specs.File.{IsHeadOf, Realizes}
use Rattle.act1_emit.proofs.TrackedPlans.{with_sites}
use Rattle.act1_emit.proofs.emission.emit.Goals as goal

pub returns : goal.returns
returns c =
    let dev = c.args.device.now in
    let plan = c.args.plan.now in
    let channels = c.args.routes.now.channels in
    let tracks = c.args.tracks.now in
    IfOk-weaker c.file_with.result (λ (f : FuseFile). IsHeadOf dev plan f × (f.sites ≡ c.in_ok-sites.sites)) (λ (f : FuseFile). Realizes dev plan channels tracks f) (λ f h. with_sites dev plan channels tracks c.requires c.in_ok-sites.sites f c.in_ok-sites.ensures h) c.file_with.ensures
