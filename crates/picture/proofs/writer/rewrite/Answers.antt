use Rattle.picture.proofs.Readings.{sequence_reads}
use Rattle.picture.proofs.Rewritings.{sequence_rewrites}
use Rattle.picture.proofs.writer.rewrite.Goals as goal

pub returns-in_err-s-clause-again : goal.returns-in_err-s-clause-again
returns-in_err-s-clause-again c = sequence_rewrites

pub returns-in_err-s-clause-reads : goal.returns-in_err-s-clause-reads
returns-in_err-s-clause-reads c = sequence_reads

pub returns-clause-again : goal.returns-clause-again
returns-clause-again c = sequence_rewrites
