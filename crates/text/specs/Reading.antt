-- What reading a line answers.
use Rattle.std.specs.Prelude.{◌≡◌, ℕ, ◌⊎◌, List, [], ◌∷◌, ◌++◌, map, length, Some, None, Ok, Err, Option, Result, ◌≢◌, IsTrue}
use Rattle.text.specs.declared.commands.Command.{Command}
use Rattle.text.specs.declared.commands.Numbers.{Numbers}
use Rattle.text.specs.declared.faults.Fault.{Fault}
use Rattle.text.specs.declared.faults.Fault.TheVariants.{Unreadable, NoMemory}
use Rattle.text.specs.declared.words.Count.{Count}
use Rattle.text.specs.declared.words.Word.{Word}
use Rattle.text.specs.Counts.{takes, takes_many}
use Rattle.text.specs.Held.{is_many, numbers_in}
use Rattle.text.specs.Scanning.{capped}
use Rattle.text.specs.Table.{count_of, spelling}
use Rattle.text.specs.Written.{spaced, written}

-- a line that is empty or begins with `#` is passed over
abbrev pub Passed : List ℕ → Type 0
Passed bs = (bs ≡ []) ⊎ ((rest : List ℕ) × (bs ≡ 35 ∷ rest))

-- bs is how the command is written, with its numbers as long as they are
pub record Says (bs : List ℕ) (c : Command) : Type 0 where
  pub numbers : List ℕ
  pub line : bs ≡ written c.word numbers
  pub kept : numbers_in c.numbers ≡ map capped numbers

-- no command is written so
abbrev pub Unwritten : List ℕ → Type 0
Unwritten bs = (w : Word) (ns : List ℕ) → IsTrue (takes (count_of w) (length ns)) → bs ≢ written w ns

-- bs begins as a command does that may have more than two numbers, which is what memory is asked for
abbrev pub Begun : List ℕ → Type 0
Begun bs = (w : Word) × IsTrue (takes_many (count_of w)) × ((rest : List ℕ) × (bs ≡ spelling w ++ (32 ∷ rest)))

abbrev pub Reads : List ℕ → Result (Option Command) Fault → Type 0
Reads bs (Ok None) = Passed bs
Reads bs (Ok (Some c)) = Says bs c
Reads bs (Err Unreadable) = (Passed bs → ⊥) × Unwritten bs
Reads bs (Err NoMemory) = Begun bs

-- numbers, held as those of a word that takes so many are, and however many they are
abbrev pub Holds : Count → List ℕ → Result Numbers Fault → Type 0
Holds c bs (Ok x) = (is_many x ≡ takes_many c) × ((ns : List ℕ) × (bs ≡ spaced ns) × (numbers_in x ≡ map capped ns))
Holds c bs (Err Unreadable) = (ns : List ℕ) → IsTrue (takes c (length ns)) → bs ≢ spaced ns
Holds c bs (Err NoMemory) = IsTrue (takes_many c) × (bs ≢ [])

-- the numbers behind a word that takes so many
abbrev pub Behind : Count → List ℕ → Result Numbers Fault → Type 0
Behind c bs (Ok x) = IsTrue (takes c (length (numbers_in x))) × Holds c bs (Ok x)
Behind c bs (Err f) = Holds c bs (Err f)

-- the same command comes back, unless memory fails
abbrev pub Rereads : Command → Result Command Fault → Type 0
Rereads c (Ok d) = (d.word ≡ c.word) × (numbers_in d.numbers ≡ numbers_in c.numbers)
Rereads c (Err Unreadable) = ⊥
Rereads c (Err NoMemory) = Unit {0}
