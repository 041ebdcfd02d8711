use Rattle.act1_bliftext.proofs.EachText.{one_of_two}
use Rattle.act1_bliftext.proofs.OneReadings.{never_both, one_reading, one_fault}
use Rattle.act1_bliftext.proofs.laws.texts_are_exact.Goals as goal

pub returns-clause-one_of_two : goal.returns-clause-one_of_two
returns-clause-one_of_two c = one_of_two

pub returns-clause-never_both : goal.returns-clause-never_both
returns-clause-never_both c = never_both

pub returns-clause-one_reading : goal.returns-clause-one_reading
returns-clause-one_reading c = one_reading

pub returns-clause-one_fault : goal.returns-clause-one_fault
returns-clause-one_fault c = one_fault
