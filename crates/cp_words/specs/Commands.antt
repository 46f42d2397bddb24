-- The grammar of a command line, after the program's name: the command word first, then its positional words in order and
-- its options anywhere among them, each at most once. Every word is UTF-8. What a list of words means is this table:
--
--     check FILE
--     sim FILE    --steps=N (1 to 10,000,000; 1,000,000), --engines=N (1 to 32; 16),
--                 --seed=N (0 to 18,446,744,073,709,551,615; 0), --log
--     gen N       N from 1 to 100,000
use Rattle.std.specs.Prelude.{◌≡◌, ◌⊎◌, ℕ, Bool, if◌then◌else◌, List, [], ◌∷◌, Option, Some, None, option_and_then, codes}
use Rattle.std.specs.List.{All}
use Rattle.std.specs.Str.{IsUtf8, bytes_eq}
use Rattle.cp_words.specs.Words.{NumberOption, number_in, number_of, flag_of, positional_of, are_known}
use Rattle.cp_words.specs.declared.command.Command.{Command}
use Rattle.cp_words.specs.declared.command.Command.TheVariants.{Check, Sim, Gen}

abbrev pub steps : NumberOption
steps = record { beginning = codes "--steps="; least = 1; most = 10000000; default = codes "--steps=1000000" }

abbrev pub engines : NumberOption
engines = record { beginning = codes "--engines="; least = 1; most = 32; default = codes "--engines=16" }

abbrev pub seed : NumberOption
seed = record { beginning = codes "--seed="; least = 0; most = 18446744073709551615; default = codes "--seed=0" }

abbrev pub sim_options : List NumberOption
sim_options = steps ∷ engines ∷ seed ∷ []

abbrev pub log : List ℕ
log = codes "--log"

abbrev pub check_from : Option (List ℕ) → Option Command
check_from (Some file) = Some (Check file)
check_from None = None

abbrev pub sim_from : Option (List ℕ) → Option ℕ → Option ℕ → Option ℕ → Option Bool → Option Command
sim_from (Some file) (Some steps) (Some engines) (Some seed) (Some log) = Some (Sim file steps engines seed log)
sim_from _ _ _ _ _ = None

abbrev pub gen_from : Option ℕ → Option Command
gen_from (Some items) = Some (Gen items)
gen_from None = None

-- the words after `check`, `sim` and `gen`
abbrev pub check_in : List (List ℕ) → Option Command
check_in words = if are_known [] [] words then check_from (positional_of words) else None

abbrev pub sim_in : List (List ℕ) → Option Command
sim_in words =
    if are_known sim_options (log ∷ []) words
    then sim_from (positional_of words) (number_of steps words) (number_of engines words) (number_of seed words) (flag_of log words)
    else None

abbrev pub gen_in : List (List ℕ) → Option Command
gen_in words =
    if are_known [] [] words then gen_from (option_and_then (number_in 1 100000) (positional_of words)) else None

-- the command of a command word and the words after it
abbrev pub command_by : List ℕ → List (List ℕ) → Option Command
command_by word words =
    if bytes_eq word (codes "check") then check_in words
    else if bytes_eq word (codes "sim") then sim_in words
    else if bytes_eq word (codes "gen") then gen_in words
    else None

-- the command that a list of words writes, if it writes one
abbrev pub command_in : List (List ℕ) → Option Command
command_in [] = None
command_in (word ∷ words) = command_by word words

-- The words are this command.
pub record IsCommand (words : List (List ℕ)) (command : Command) : Type 0 where
  pub utf8 : All IsUtf8 words
  pub is : command_in words ≡ Some command

-- the word of the commands that start threads
abbrev pub IsThreaded : List (List ℕ) → Type 0
IsThreaded [] = ⊥
IsThreaded (word ∷ words) = (word ≡ codes "run") ⊎ (word ≡ codes "serve") ⊎ (word ≡ codes "call")
