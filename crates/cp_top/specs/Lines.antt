-- The last lines of calls that run nothing.
use Rattle.std.specs.Prelude.{ℕ, List, ◌++◌, length, codes, decimal}
use Rattle.cp_module.specs.declared.why.Why.{Why}
use Rattle.cp_module.specs.declared.why.Why.TheVariants as why
use Rattle.cp_module.specs.declared.refusal.Refusal.{Refusal}
use Rattle.cp_code.specs.declared.program.Program.{Program}

abbrev pub usage_line : List ℕ
usage_line = codes "{USAGE}\n"

abbrev pub file_line : (name why : List ℕ) → List ℕ
file_line name why = codes "{FILE: " ++ name ++ codes ": " ++ why ++ codes "}\n"

-- the name of a cause
abbrev pub why_text : Why → List ℕ
why_text why.BadUtf8 = codes "BadUtf8"
why_text why.OpenQuote = codes "OpenQuote"
why_text why.OpenComment = codes "OpenComment"
why_text why.BadEscape = codes "BadEscape"
why_text why.WideNumber = codes "WideNumber"
why_text why.Float = codes "Float"
why_text why.StrayByte = codes "StrayByte"
why_text why.NoFullStop = codes "NoFullStop"
why_text why.Priority = codes "Priority"
why_text why.UnexpectedToken = codes "UnexpectedToken"
why_text why.TooLarge = codes "TooLarge"
why_text why.NoModuleHeader = codes "NoModuleHeader"
why_text why.BadDeclaration = codes "BadDeclaration"
why_text why.BadBody = codes "BadBody"
why_text why.ClauseOfBuiltin = codes "ClauseOfBuiltin"
why_text why.RuleOfShared = codes "RuleOfShared"
why_text why.SharedTwice = codes "SharedTwice"
why_text why.TooManyClauses = codes "TooManyClauses"
why_text why.TooManyModules = codes "TooManyModules"
why_text why.TooManyShared = codes "TooManyShared"
why_text why.DuplicateModule = codes "DuplicateModule"
why_text why.NotExported = codes "NotExported"
why_text why.ImportClash = codes "ImportClash"
why_text why.ClauseOfImported = codes "ClauseOfImported"
why_text why.BadAddress = codes "BadAddress"
why_text why.NotRegular = codes "NotRegular"
why_text why.BadHead = codes "BadHead"
why_text why.BadProperty = codes "BadProperty"
why_text why.OnShared = codes "OnShared"
why_text why.NoMain = codes "NoMain"

-- `{REFUSED: FILE:LINE: WHY}`
abbrev pub refused_line : Refusal → List ℕ
refused_line r = codes "{REFUSED: " ++ r.file ++ codes ":" ++ decimal r.line ++ codes ": " ++ why_text r.why ++ codes "}\n"

-- how many modules the files of an accepted program are, how many of their clauses are no declarations, and how many
-- predicates are shared
abbrev pub accepted_line : Program → List ℕ
accepted_line p =
    codes "{ACCEPTED: " ++ decimal (length p.modules) ++ codes " modules, " ++ decimal p.written ++ codes " clauses, "
    ++ decimal (length p.shared) ++ codes " shared}\n"
