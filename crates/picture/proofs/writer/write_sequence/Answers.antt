use Rattle.std.proofs.Common.{sym}
use Rattle.picture.proofs.Lengths.{sequence_small}
use Rattle.picture.proofs.Readings.{reads_in_a_row, sequence_reads}
use Rattle.picture.proofs.writer.write_sequence.Goals as goal

pub returns-then-not-is_sequence-clause-reads : goal.returns-then-not-is_sequence-clause-reads
returns-then-not-is_sequence-clause-reads c = sequence_reads

pub returns-then-not-is_sequence-clause-row : goal.returns-then-not-is_sequence-clause-row
returns-then-not-is_sequence-clause-row c = reads_in_a_row

pub write_front-requires : goal.write_front-requires
write_front-requires c = sequence_small _ c.args.space c.args.final_byte (sym c.if-not-is_sequence.ensures)

pub returns-clause-reads : goal.returns-clause-reads
returns-clause-reads c = sequence_reads

pub returns-clause-row : goal.returns-clause-row
returns-clause-row c = reads_in_a_row
