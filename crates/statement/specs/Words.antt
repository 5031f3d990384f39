-- A statement in the words of a run file.
use Rattle.std.specs.Prelude.{ℕ, List, ◌++◌, codes, decimal}
use Rattle.statement.specs.declared.operation.Operation.{Operation}
use Rattle.statement.specs.declared.operation.Operation.TheVariants.{Get, Set, Add, Take, Join, Leave, Heads}
use Rattle.statement.specs.declared.checked.Missing.{Missing}
use Rattle.statement.specs.declared.checked.Missing.TheVariants.{Cell, Member}
use Rattle.statement.specs.declared.checked.Statement.{Statement}

-- The operation's word, the cell, and the value or member where there is one, parted by single spaces.
abbrev pub words_at : ℕ → Operation → List ℕ
words_at c Get = codes "get " ++ decimal c
words_at c (Set v) = codes "set " ++ (decimal c ++ (codes " " ++ decimal v))
words_at c (Add v) = codes "add " ++ (decimal c ++ (codes " " ++ decimal v))
words_at c (Take v) = codes "take " ++ (decimal c ++ (codes " " ++ decimal v))
words_at c (Join m) = codes "join " ++ (decimal c ++ (codes " " ++ decimal m))
words_at c (Leave m) = codes "leave " ++ (decimal c ++ (codes " " ++ decimal m))
words_at c Heads = codes "heads " ++ decimal c

abbrev pub statement_words : Statement → List ℕ
statement_words s = words_at s.cell s.operation

abbrev pub missing_words : Missing → List ℕ
missing_words (Cell c) = codes "no cell " ++ decimal c
missing_words (Member m) = codes "no member " ++ decimal m
