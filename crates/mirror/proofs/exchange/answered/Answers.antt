use Rattle.mirror.proofs.ExchangeLaw.{answers}
use Rattle.mirror.proofs.exchange.answered.Goals as goal

pub returns : goal.returns
returns c =
    λ e. answers c.args.a c.args.b c.requires.0 c.requires.3 c.transition-step.ensures c.other-image.ensures (c.offered.ensures e)
