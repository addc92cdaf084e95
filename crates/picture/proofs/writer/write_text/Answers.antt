use Rattle.picture.proofs.Readings.{reads_in_a_row, text_reads}
use Rattle.picture.proofs.writer.write_text.Goals as goal

pub returns-then-not-is_text-clause-reads : goal.returns-then-not-is_text-clause-reads
returns-then-not-is_text-clause-reads c = text_reads

pub returns-then-not-is_text-clause-row : goal.returns-then-not-is_text-clause-row
returns-then-not-is_text-clause-row c = reads_in_a_row

pub returns-clause-reads : goal.returns-clause-reads
returns-clause-reads c = text_reads

pub returns-clause-row : goal.returns-clause-row
returns-clause-row c = reads_in_a_row
