use Rattle.std.proofs.Common.{List, take, subst, sym}
use Rattle.act1_device.specs.declared.device.Site.TheVariants.{Along}
use Rattle.act1_device.specs.declared.device.Wire.{Wire}
use Rattle.act1_base.proofs.LinkAdded.{with_link}
use Rattle.act1_fuses.specs.Wires.{links_of}
use Rattle.act1_array.specs.ClassSteps.{AreClasses}
use Rattle.act1_array.proofs.ClassLemmas.{links_more}
use Rattle.act1_array.proofs.classes.Classes.of_sites.Goals as goal

pub loop-site-preserved : goal.loop-site-preserved
loop-site-preserved c =
    let dev = c.args.device.now in
    let sites = c.args.sites.now in
    let k = c.loop-site.site-index in
    let keys = c.link.new.self.wires.keys in
    let classes = c.link.new.self.classes.items in
    let more = links_more dev sites k (Along 0 0 0) c.loop-site-test.true in
    let linked = c.in_ok-link.ensures.classes (links_of dev (take k sites)) c.loop-site.invariant.joined in
    record {
      whole = c.in_ok-link.ensures.whole;
      joined = subst (λ (links : List (Wire × Wire)). AreClasses links keys classes) (sym more)
          (subst (λ (ends : Wire × Wire). AreClasses (with_link (links_of dev (take k sites)) ends.0 ends.1) keys classes) c.ends-a.ensures linked);
    }
