pub mod PanelCases
pub mod BesideLaws
