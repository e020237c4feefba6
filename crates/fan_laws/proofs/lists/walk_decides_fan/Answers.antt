use Rattle.triangle_laws.proofs.FanDecided.{fan_decided}
use Rattle.fan_laws.proofs.lists.walk_decides_fan.Goals as goal

pub returns : goal.returns
returns c = λ ts v once. fan_decided ts once v
