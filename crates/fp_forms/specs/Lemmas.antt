-- Lemmas for the variables `p` and `q`, which are derived once and of which instances are taken.
use Rattle.fp_term.specs.Terms.{Tm}
use Rattle.fp_conclude.specs.Logic.{truth_type, equal, true_constant, conjunction, implication}
use Rattle.fp_forms.specs.Schemas.{p_variable, q_variable, held, both_true, choice, chosen, implied}
use Rattle.fp_forms.specs.declared.lemma.Lemma.{Lemma}
use Rattle.fp_forms.specs.declared.lemma.Lemma.TheVariants.{Truth, Held, Truthful, Untrue, Conjoined, Truths, Choice, Implied, Turned, Folded}

abbrev pub equivalent : Tm → Tm → Tm
equivalent p q = equal truth_type p q

-- `(p = q) = (q = p)`
abbrev pub exchanged : Tm → Tm → Tm
exchanged p q = equivalent (equivalent p q) (equivalent q p)

abbrev pub statement_of : Lemma → Tm
-- `T`
statement_of Truth = true_constant
-- `p = (T = p)`
statement_of Held = equivalent p_variable (held p_variable)
-- `p = (p = T)`
statement_of Truthful = equivalent p_variable (equivalent p_variable true_constant)
-- `(p = T) = p`
statement_of Untrue = equivalent (equivalent p_variable true_constant) p_variable
-- `(p /\ q) = ((%f. f p q) = (%f. f T T))`
statement_of Conjoined = equivalent (conjunction p_variable q_variable) (both_true p_variable q_variable)
-- `T /\ T`
statement_of Truths = conjunction true_constant true_constant
-- `((%f. f p q) c = (%f. f T T) c) = x`, for the chooser `c` of the first or the second, and `p` or `q` for `x`
statement_of (Choice first) =
    equivalent (equivalent (choice first p_variable q_variable) (choice first true_constant true_constant)) (chosen first p_variable q_variable)
-- `(p --> q) = ((p /\ q) = p)`
statement_of Implied = equivalent (implication p_variable q_variable) (implied p_variable q_variable)
-- `(p --> q) = (p = (p /\ q))`
statement_of Turned = equivalent (implication p_variable q_variable) (equivalent p_variable (conjunction p_variable q_variable))
-- `((p /\ q) = p) = (p --> q)`
statement_of Folded = equivalent (implied p_variable q_variable) (implication p_variable q_variable)
