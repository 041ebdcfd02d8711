use Rattle.act1_fuses.proofs.FileText.{text_of_file}
use Rattle.act1_fuses.proofs.write.add_file.Goals as goal

pub returns : goal.returns
returns c =
    text_of_file c.args.file.now _ _ _ _ _ _ _ _ _
    c.in_ok-extend_from_slice.ensures.items
    c.in_ok-write_device.ensures
    c.in_ok-write_clock.ensures
    (rw c.as_slice.ensures at c.in_ok-write_ports.ensures)
    (rw c.as_slice-2.ensures at c.in_ok-write_ports-2.ensures)
    (rw c.as_slice-3.ensures at c.in_ok-write_starts.ensures)
    (rw c.as_slice-4.ensures at c.in_ok-write_sites.ensures)
    c.in_ok-extend_from_slice-2.ensures.items
