use Rattle.std.proofs.Common.{sym, ap, ◌∙◌, rules}
use Rattle.panel.specs.Clears.{clear_on}
use Rattle.panel.proofs.Lenders.{module_cleared}
use Rattle.panel.proofs.clearing.clear_bytes.Goals as goal

pub returns : goal.returns
returns c =
    let m = module_cleared c.clear.new.panel _ c.args.size.lines c.args.size.columns c.args.bytes.now (c.clear.ensures ∙ ap clear_on c.new-panel.ensures) in
    let same = sym m.0 in
    let memory = m.1 in
    search rules
