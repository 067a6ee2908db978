-- A number of one digit is that digit; of one of more, the last digit follows the others.
use Rattle.lustre_write.proofs.Placing.{number-one, number_more}
use Rattle.lustre_write.proofs.+write_number.Goals as goal

pub returns-then-x-lt10 : goal.returns-then-x-lt10
returns-then-x-lt10 t c = number-one _ _ _ c.if-x-lt10.true c.store.ensures

pub returns : goal.returns
returns t c =
    number_more _ _ _ _ _ c.if-x-lt10.false c.ranges.x.fits c.write_number-at.ensures c.store-2.ensures
