-- The names that a command says itself, those in its terms and types aside.
use Rattle.std.specs.Prelude.{◌≤◌, ℕ, List, [], ◌∷◌, length}
use Rattle.fp_commands.specs.declared.command.Head.{Head}
use Rattle.fp_commands.specs.declared.command.Body.{Body}
use Rattle.fp_commands.specs.declared.command.Body.TheVariants.{Definition, Typedef, Lemma, Simp, Cong, Constructors, Size, Measure, Fun, Function}
use Rattle.fp_commands.specs.declared.command.Command.{Command}

abbrev pub head_names : List Head → List (List ℕ)
head_names [] = []
head_names (h ∷ hs) = h.name ∷ head_names hs

abbrev pub names_of : Body → List (List ℕ)
names_of (Definition x t) = x ∷ []
names_of (Typedef x abs rep fact) = x ∷ abs ∷ rep ∷ fact ∷ []
names_of (Lemma x t lines) = x ∷ []
names_of (Simp x) = x ∷ []
names_of (Cong x) = x ∷ []
names_of (Constructors x cons) = x ∷ cons
names_of (Size u t) = []
names_of (Measure u t) = []
names_of (Fun heads clauses) = head_names heads
names_of (Function heads clauses) = head_names heads

-- each has at most 64 bytes
abbrev pub AreShort : List (List ℕ) → Type 0
AreShort [] = Unit {0}
AreShort (x ∷ xs) = (length x ≤ 64) × AreShort xs

abbrev pub HaveShortNames : List Command → Type 0
HaveShortNames [] = Unit {0}
HaveShortNames (c ∷ cs) = AreShort (names_of c.body) × HaveShortNames cs
