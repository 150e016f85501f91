-- What C gets: a flat struct, with the numbers that stand for each case of a landing. To be believed.
use Rattle.std.specs.Prelude as std
use Rattle.std.specs.Prelude.{Option, Some, None, Ok, Err, ◌≡◌, List, ℕ, ℤ, pos}
use Rattle.std.specs.Float.{binary64}
use Rattle.std.specs.Float.Ieee.{of_bits}
use Rattle.outline.specs.Drawing.{Point}
use Rattle.marks.specs.Carry.{number, CarriesMark, result_of, landing_of}
use Rattle.marks.specs.declared.Carried.{Carried}
use Rattle.marks.specs.declared.Place.{Place}
use Rattle.marks.specs.declared.Refusal.{Refusal}
use Rattle.marks.specs.declared.flat.Flat.{Flat}

-- a place has 1 and its four values; without a place all five are zero
abbrev pub flat_of : ℕ → ℕ → ℕ → Option Place → Flat
flat_of number pieces bytes (Some p) = record {
  number = number;
  lands = 1;
  pieces = pieces;
  bytes = bytes;
  x_step = p.x.step;
  x_rest = p.x.rest;
  y_step = p.y.step;
  y_rest = p.y.rest;
}
flat_of number pieces bytes None = record {
  number = number;
  lands = 0;
  pieces = pieces;
  bytes = bytes;
  x_step = pos 0;
  x_rest = of_bits binary64 0;
  y_step = pos 0;
  y_rest = of_bits binary64 0;
}

abbrev pub flat : std.Result Carried Refusal → Flat
flat (Ok c) = flat_of 0 c.pieces c.bytes c.landing
flat (Err refusal) = flat_of (number refusal) 0 0 None

-- the same promise as for the call that it stands for
pub record CarriesFlat (first second : List ℤ) (m : Point) (before after : List ℕ) (f : Flat) : Type 0 where
  pub carried : std.Result Carried Refusal
  pub is_flat : f ≡ flat carried
  pub carries : CarriesMark first second m before (result_of carried after) (landing_of carried)
