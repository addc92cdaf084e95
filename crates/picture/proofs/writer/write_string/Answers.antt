use Rattle.picture.proofs.Readings.{reads_in_a_row, string_reads}
use Rattle.picture.proofs.writer.write_string.Goals as goal

pub returns-then-not-is_string-clause-reads : goal.returns-then-not-is_string-clause-reads
returns-then-not-is_string-clause-reads c = string_reads

pub returns-then-not-is_string-clause-row : goal.returns-then-not-is_string-clause-row
returns-then-not-is_string-clause-row c = reads_in_a_row

pub returns-clause-reads : goal.returns-clause-reads
returns-clause-reads c = string_reads

pub returns-clause-row : goal.returns-clause-row
returns-clause-row c = reads_in_a_row
