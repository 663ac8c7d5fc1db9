-- `decimal` ends, since a tenth of a number that has two digits is less.
use Rattle.listing.proofs.Pen.+decimal.Given as goal

abbrev pub decreases-decimal : goal.decreases-decimal
decreases-decimal l = l.n
