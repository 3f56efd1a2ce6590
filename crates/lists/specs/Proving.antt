-- The words of the library that most proofs use, passed on under one module. Definitions cite the library itself.
pub use Rattle.std.proofs.Common.{rules, arith, sym, ◌∙◌, ap, ap₂, subst, inl, inr, ⊎_elim, length-set, length-append, get_or-set_same, get_or-set_other, drop-cons, add-one, below_more, eqb-true, eq-eqb, ne_eqb, ltb-true, lt-ltb, le-ltb}
pub use Rattle.std.specs.Prelude.{ℕ, zero, suc, ◌+◌, ◌-◌, ◌*◌, ◌/◌, ◌%◌, ◌^◌, ◌<◌, ◌≤◌, ◌≡◌, refl, Bool, true, false, cond, ◌&&◌, ◌⊎◌, List, [], ◌∷◌, ◌++◌, length, get_or, set, take, drop, replicate, eqb, ltb}
pub use Rattle.std.proofs.Math.Logic.{by_cases}
pub use Rattle.std.proofs.Math.Option.{Option, some, none}
pub use Rattle.std.proofs.lemmas.List.{length-replicate, get_or-replicate}
pub use Rattle.std.proofs.Math.ListN.{get_or-eq_default as List·getD-eq-default}
pub use Rattle.std.proofs.Math.Seq.{append_snoc}
pub use Rattle.std.proofs.Math.Decide.{ℕ_discrete, dec_lt}
pub use Rattle.std.proofs.lemmas.Bool.{not-true, not-false, eqb-false}
pub use Rattle.lists.specs.laws.TestLaw.{never}
