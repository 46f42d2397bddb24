-- The names that the language keeps for its own goals, and the order of the causes of one line.
use Rattle.std.specs.Prelude.{ℕ, zero, suc, Bool, false, ◌||◌, ◌&&◌, nat_le, if◌then◌else◌, is_some, List}
use Rattle.cp_code.specs.Bodies.{is}
use Rattle.cp_code.specs.Goals.{builtin_goal}
use Rattle.cp_module.specs.declared.why.Why.{Why}
use Rattle.cp_module.specs.declared.why.Why.TheVariants as why

-- control: `true`, `fail`, `!`, `,`/2, `;`/2, `->`/2, `\+`/1, `call`/1 to `call`/8, `catch`/3, `throw`/1, `findall`/3
abbrev pub is_control : List ℕ → ℕ → Bool
is_control f zero = is f "true" || is f "fail" || is f "!"
is_control f (suc zero) = is f "\\+" || is f "call" || is f "throw"
is_control f (suc (suc zero)) = is f "," || is f ";" || is f "->" || is f "call"
is_control f (suc (suc (suc zero))) = is f "catch" || is f "findall" || is f "call"
is_control f k = is f "call" && nat_le k 8

-- a goal of the language, which no file may define
abbrev pub is_language : List ℕ → ℕ → Bool
is_language f k = is_control f k || is_some (builtin_goal f k)

-- the place of a cause in the table
abbrev pub rank : Why → ℕ
rank why.BadUtf8 = 0
rank why.OpenQuote = 1
rank why.OpenComment = 2
rank why.BadEscape = 3
rank why.WideNumber = 4
rank why.Float = 5
rank why.StrayByte = 6
rank why.NoFullStop = 7
rank why.Priority = 8
rank why.UnexpectedToken = 9
rank why.TooLarge = 10
rank why.NoModuleHeader = 11
rank why.BadDeclaration = 12
rank why.BadBody = 13
rank why.ClauseOfBuiltin = 14
rank why.RuleOfShared = 15
rank why.SharedTwice = 16
rank why.TooManyClauses = 17
rank why.TooManyModules = 18
rank why.TooManyShared = 19
rank why.DuplicateModule = 20
rank why.NotExported = 21
rank why.ImportClash = 22
rank why.ClauseOfImported = 23
rank why.BadAddress = 24
rank why.NotRegular = 25
rank why.BadHead = 26
rank why.BadProperty = 27
rank why.OnShared = 28
rank why.NoMain = 29
