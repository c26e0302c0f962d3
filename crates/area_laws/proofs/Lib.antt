-- Laws of the sum over a walk of x times the change of y.
pub mod AreaCases
pub mod SweepLaws
pub mod ImageLaws
pub mod MovedLaws
pub mod SumLaws
pub mod BoxLaws
pub mod PanelLaws
pub mod CountLaws
pub mod AreaLaws
pub mod EvenLaws
