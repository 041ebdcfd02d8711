use Rattle.std.proofs.lemmas.Result.{err_from_is_err_and}
use Rattle.act1_devread.proofs.FaultOrder.{at_size, at_list}
use Rattle.act1_devread.proofs.read.device_in.Goals as goal

pub returns-in_err-sizes : goal.returns-in_err-sizes
returns-in_err-sizes c =
    let p = err_from_is_err_and c.from_residual-in_err-sizes.result c.from_residual-in_err-sizes.ensures.1 in
    rw (p.1, p.2) (record {
      passes = tt;
      given = tt;
      refuses = λ other. at_size _ c.in_ok-values.values _ c.in_ok-values.ensures.given c.in_ok-check_present.ensures.passes c.in_ok-values.ensures.passes (c.in_err-sizes.ensures.refuses other);
      out_of_memory = c.in_err-sizes.ensures.out_of_memory;
    })

pub returns-in_err-device : goal.returns-in_err-device
returns-in_err-device c =
    let p = err_from_is_err_and c.from_residual-in_err-device.result c.from_residual-in_err-device.ensures.1 in
    rw (p.1, p.2) (record {
      passes = tt;
      given = tt;
      refuses = λ other. at_list _ c.in_ok-values.values _ c.in_ok-values.ensures.given c.in_ok-check_present.ensures.passes c.in_ok-values.ensures.passes c.in_ok-sizes.ensures.passes (c.in_err-device.ensures.refuses other);
      out_of_memory = c.in_err-device.ensures.out_of_memory;
    })
