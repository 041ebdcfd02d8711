use Rattle.act1_flow.specs.Helping.{helping_of}
use Rattle.act1_flow.proofs.stages.flow.Goals as goal

pub returns : goal.returns
returns g c =
    let dev = c.args.device.now in
    let net = c.args.net.now in
    let settings = c.args.settings.now in
    let helping = helping_of c.args.program.now (g.H.Helpers.seen c.args.helpers.now) (g.H.Helpers.seen c.flow_in_stages.new.helpers) in
    let gives = c.flow_in_stages.ensures.gives in
    record {
      gives = gives;
      calls = c.flow_in_stages.ensures.calls;
      ample = λ ample. c.flow_is_sure.ensures.ample dev net settings helping c.flow_in_stages.result ample gives;
      unspent = c.flow_is_sure.ensures.unspent dev net settings helping c.flow_in_stages.result gives;
      extracts = c.flow_is_sure.ensures.extracts dev net settings helping c.flow_in_stages.result gives;
    }
