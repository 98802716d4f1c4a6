use Rattle.std.proofs.Common.{◌*◌, ◌^◌, refl, ap}
use Rattle.dyadic.specs.Rounding.{size_above, root_above, whole_root, root_up}
use Rattle.dyadic.proofs.RootViews.{root_of_size}
use Rattle.dyadic.proofs.root.sqrt_up.Goals as goal

pub returns-in-Fin : goal.returns-in-Fin
returns-in-Fin c =
    root_of_size (λ n. size_above (root_above (n * 2 ^ 120) (whole_root (n * 2 ^ 120)))) root_up (λ d. refl) c.in-Fin.a c.parts.result c.args.a c.signed.result c.size_up.result c.in-Fin.is c.requires c.parts.ensures (ap (λ z. record { units = z }) c.signed.ensures) c.size_up.ensures
