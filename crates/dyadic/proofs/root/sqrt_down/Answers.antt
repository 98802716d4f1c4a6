use Rattle.std.proofs.Common.{◌*◌, ◌^◌, refl, ap}
use Rattle.dyadic.specs.Rounding.{size_below, whole_root, root_down}
use Rattle.dyadic.proofs.RootViews.{root_of_size}
use Rattle.dyadic.proofs.root.sqrt_down.Goals as goal

pub returns-in-Fin : goal.returns-in-Fin
returns-in-Fin c =
    root_of_size (λ n. size_below (whole_root (n * 2 ^ 120))) root_down (λ d. refl) c.in-Fin.a c.parts.result c.args.a c.signed.result c.size_down.result c.in-Fin.is c.requires c.parts.ensures (ap (λ z. record { units = z }) c.signed.ensures) c.size_down.ensures
