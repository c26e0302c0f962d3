-- Laws on the search for a corner and on the sums of columns.
mod FindLaws
mod SumLaws
