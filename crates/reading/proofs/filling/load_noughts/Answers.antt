use Rattle.reading.proofs.LoadLaw as laws
use Rattle.reading.proofs.filling.load_noughts.Goals as goal

pub fill-requires : goal.fill-requires
fill-requires c = record { fillable = (_, laws.fillable c.args.sheet.now _ c.in_ok-summary.ensures.answer _ c.in_ok-summary.ensures.rules); cleared = laws.cleared _ c.requires _ _ }
