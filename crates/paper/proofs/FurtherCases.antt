-- The definitions answer the cases beside the starred ones (specs/FurtherCases.antt).
use mathlib.Core.Path.{◌≡◌, refl}
use mathlib.Core.List.{map}
use Rattle.paper.specs.Cases.{answer}
use Rattle.paper.specs.FurtherCases.{first_checks, lowest_shows, before_others, numbered_by_keys}

pub first-checks : map answer first_checks ≡ map (λ c. c.expected) first_checks
first-checks = refl

pub lowest-shows : map answer lowest_shows ≡ map (λ c. c.expected) lowest_shows
lowest-shows = refl

pub before-others : map answer before_others ≡ map (λ c. c.expected) before_others
before-others = refl

pub numbered-by-keys : map answer numbered_by_keys ≡ map (λ c. c.expected) numbered_by_keys
numbered-by-keys = refl
