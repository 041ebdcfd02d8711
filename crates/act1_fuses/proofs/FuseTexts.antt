-- The laws of the texts of antifuse files.
use Rattle.act1_device.specs.Laws.{DevicesAreSmall}
use Rattle.act1_fuses.specs.Laws.{OneFile, NeverBoth}
use Rattle.act1_fuses.proofs.Bounds.{fits_of}
use Rattle.act1_fuses.proofs.ReadBack.{one_text, not_refused}

pub one_file : DevicesAreSmall → OneFile
one_file small dev f g kept keeps same = one_text dev f kept (fits_of small dev f kept) g keeps (fits_of small dev g keeps) same

pub never_refused : DevicesAreSmall → NeverBoth
never_refused small dev bytes f line k is fault = not_refused dev f is.0 (fits_of small dev f is.0) bytes (record { line = line; kind = k }) is.1 fault
