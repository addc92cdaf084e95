use Rattle.picture.proofs.Lengths.{control_small}
use Rattle.picture.proofs.Readings.{reads_in_a_row, control_reads}
use Rattle.picture.proofs.writer.write_control.Goals as goal

pub returns-then-not-is_control-clause-reads : goal.returns-then-not-is_control-clause-reads
returns-then-not-is_control-clause-reads c = control_reads

pub returns-then-not-is_control-clause-row : goal.returns-then-not-is_control-clause-row
returns-then-not-is_control-clause-row c = reads_in_a_row

pub write_front-requires : goal.write_front-requires
write_front-requires c = control_small c.args.byte

pub returns-clause-reads : goal.returns-clause-reads
returns-clause-reads c = control_reads

pub returns-clause-row : goal.returns-clause-row
returns-clause-row c = reads_in_a_row
