-- The operators that a module has before its first declaration. The table as a whole is this project's own.
use Rattle.std.specs.Prelude.{ℕ, List, [], ◌∷◌, ◌++◌, map, codes}
use Prim.Native.String.{String}
use Rattle.cp_ops.specs.declared.fix.Fix.{Fix}
use Rattle.cp_ops.specs.declared.fix.Fix.TheVariants.{Xfx, Xfy, Yfx, Fy, Fx}
use Rattle.cp_ops.specs.Table.{Ops, OpRow}

abbrev rows : ℕ → Fix → List String → List OpRow
rows priority fix names = map (λ s. record { name = codes s; priority = priority; fix = fix }) names

abbrev pub standard_prefixes : List OpRow
standard_prefixes =
    rows 1200 Fx (":-" ∷ "?-" ∷ [])
    ++ rows 1160 Fx ("check" ∷ "trust" ∷ "true" ∷ "checked" ∷ "false" ∷ [])
    ++ rows 1150 Fx ("concurrent" ∷ "data" ∷ "meta_predicate" ∷ "pred" ∷ "calls" ∷ "success" ∷ "comp" ∷ "prop" ∷ "regtype" ∷ [])
    ++ rows 900 Fy ("\\+" ∷ [])
    ++ rows 200 Fy ("-" ∷ "+" ∷ "\\" ∷ [])

abbrev pub standard_infixes : List OpRow
standard_infixes =
    rows 1200 Xfx (":-" ∷ "-->" ∷ [])
    ++ rows 1100 Xfy (";" ∷ [])
    ++ rows 1050 Xfy ("->" ∷ [])
    ++ rows 1000 Xfy ("," ∷ [])
    ++ rows 980 Xfx ("#" ∷ [])
    ++ rows 975 Xfx ("=>" ∷ [])
    ++ rows 700 Xfx ("=" ∷ "\\=" ∷ "==" ∷ "\\==" ∷ "@<" ∷ "@=<" ∷ "@>" ∷ "@>=" ∷ "=.." ∷ "is" ∷ "=:=" ∷ "=\\=" ∷ "<" ∷ "=<" ∷ ">" ∷ ">=" ∷ [])
    ++ rows 550 Xfy (":" ∷ [])
    ++ rows 500 Yfx ("+" ∷ "-" ∷ "/\\" ∷ "\\/" ∷ [])
    ++ rows 400 Yfx ("*" ∷ "/" ∷ "//" ∷ "mod" ∷ "rem" ∷ "<<" ∷ ">>" ∷ [])
    ++ rows 200 Xfy ("^" ∷ [])

abbrev pub standard : Ops
standard = record { prefixes = standard_prefixes; infixes = standard_infixes }
