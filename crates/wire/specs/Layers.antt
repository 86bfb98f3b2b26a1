-- The names of the layers in which a fault can lie, and how a fault is printed.
use Rattle.std.specs.Prelude.{ℕ, List, ◌∷◌, ◌++◌, codes}
use Rattle.std.specs.Fmt.{decimal}
use Rattle.wire.specs.declared.report.Layer.{Layer}
use Rattle.wire.specs.declared.report.Layer.TheVariants.{Reader, Path, Roots}
use Rattle.wire.specs.declared.report.Report.{Report}

abbrev pub layer_name : Layer → List ℕ
layer_name Reader = codes "reader"
layer_name Path = codes "path"
layer_name Roots = codes "roots"

-- number, layer and place, with a space (32) between two
abbrev pub report_text : Report → List ℕ
report_text report = decimal report.number ++ (32 ∷ (layer_name report.layer ++ (32 ∷ decimal report.place)))
